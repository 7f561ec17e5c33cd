-- Bytes that several owners share.
use Rattle.std.specs.Prelude.{ℕ, List, []}
use Rattle.tail_codec.specs.declared.shared_bytes.Held.{Held}
use Rattle.tail_codec.specs.declared.shared_bytes.Held.TheVariants.{Nothing, UpTo15, UpTo31, UpTo47, UpTo63, UpTo95, UpTo127, Longer}

-- the bytes, wherever they lie
abbrev pub held_bytes : Held → List ℕ
held_bytes Nothing = []
held_bytes (UpTo15 room) = room.value
held_bytes (UpTo31 room) = room.value
held_bytes (UpTo47 room) = room.value
held_bytes (UpTo63 room) = room.value
held_bytes (UpTo95 room) = room.value
held_bytes (UpTo127 room) = room.value
held_bytes (Longer bytes) = bytes.value.items

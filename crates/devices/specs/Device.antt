-- What clauses read of a device.
use Rattle.std.specs.Prelude.{ℕ, Bool, List}
use Rattle.devices.specs.declared.adapter.Device.{Device}

-- all the bytes that it has given, in order
abbrev pub bytes_read_by : {T : Type 0} → Device T → List ℕ
bytes_read_by device = device.bytes_read.bytes

-- all the bytes that it has taken, in order
abbrev pub bytes_written_by : {T : Type 0} → Device T → List ℕ
bytes_written_by device = device.bytes_written.bytes

-- whether a read has said that there is no more
abbrev pub is_ended : {T : Type 0} → Device T → Bool
is_ended device = device.is_ended

-- how many reads have failed
abbrev pub read_failures : {T : Type 0} → Device T → ℕ
read_failures device = device.bytes_read.failures

-- how many writes have failed
abbrev pub write_failures : {T : Type 0} → Device T → ℕ
write_failures device = device.bytes_written.failures

-- how often it may still read from what is inside
abbrev pub reads_left : {T : Type 0} → Device T → ℕ
reads_left device = device.reads_left

-- the reader or writer inside
abbrev pub inner_of : {T : Type 0} → Device T → T
inner_of device = device.inner

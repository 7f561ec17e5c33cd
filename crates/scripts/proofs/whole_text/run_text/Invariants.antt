use Rattle.scripts.proofs.whole_text.run_text.Given as goal

-- the text that the reader gives
abbrev pub ghosts-run_known : goal.ghosts-run_known
ghosts-run_known g a = record { text = a.text.items }

-- By computation.
use Rattle.std.proofs.Common.{refl, arith}
use Rattle.script.specs.Table.{table, row_of}
use Rattle.words.specs.Tokens.{code_of}
use Rattle.script.specs.Claims.{RowsApart, KeepsNumbers}
use Rattle.script.specs.Shown.{ShowsSender, ShowsOwn, ShowsClocks, ShowsBad}

pub shows_sender : ShowsSender
unfolding table row_of code_of
shows_sender = (refl, refl, refl, refl, refl, refl, refl, refl, refl, refl, refl, refl, refl, refl, refl, refl, refl, refl, refl, refl, refl, refl, refl, refl, refl)

pub shows_own : ShowsOwn
unfolding table row_of code_of
shows_own = (refl, refl, refl, refl, refl, refl, refl, refl, refl, refl, refl, refl, refl, refl, refl, refl, refl, refl, refl, refl, refl, refl, refl, refl)

pub shows_clocks : ShowsClocks
unfolding table row_of code_of
shows_clocks = (refl, refl, refl, refl, refl, refl, refl, refl, refl, refl, refl, refl, refl, refl, refl, refl, refl)

pub shows_bad : ShowsBad
unfolding table row_of code_of
shows_bad = (refl, refl, refl, refl, refl, refl, refl, refl, refl, refl, refl, refl, refl, refl, refl, refl, refl, refl, refl, refl, refl, refl, refl, refl, refl, refl)

pub rows_apart : RowsApart
unfolding table
rows_apart = refl

pub keeps_numbers : KeepsNumbers
keeps_numbers n = (λ h. omega arith, λ h. omega arith, λ h. omega arith, λ h. omega arith, λ h. omega arith)

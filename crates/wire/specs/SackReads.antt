-- What a SACK's bytes are read as.
use Rattle.std.specs.Prelude.{List, ℕ, Option, Some, None}
use Rattle.model.specs.Lists.{when◌then◌else◌}
use Rattle.model.specs.Sack.{cumulative_of, block_count, is_sack}
use Rattle.wire.specs.declared.sack.Layout.{Layout}

-- the cumulative TSN of a SACK and how many blocks it has; nothing of bytes that are none
abbrev pub ReadAs : Type 0
ReadAs = Option Layout

abbrev pub laid_as : (cumulative blocks : ℕ) → ReadAs
laid_as t n = Some (record { cumulative = t; blocks = n })

abbrev pub layout_of : List ℕ → ReadAs
layout_of p = when is_sack p then laid_as (cumulative_of p) (block_count p) else None

use Rattle.std.proofs.Common.{◌≡◌, drop}
use Rattle.std.specs.Prelude.{find, map}
use Rattle.finding_codes.specs.Rule.{is_way}
use Rattle.finding_codes.specs.Table.{way_seen}
use Rattle.finding_codes.proofs.rule.find_way.Given as goal

-- the way is that of the rows left
abbrev pub invariant-loop-way : goal.invariant-loop-way
invariant-loop-way l = find (is_way l.rule) (map way_seen l.ways) ≡ find (is_way l.rule) (map way_seen (drop l.way-index l.ways))

use Rattle.dns_scan.proofs.Joined.{converts_in_turn, converts_join, converts_leaves, converts_symbols}
use Rattle.dns_scan.proofs.laws.entries_convert_as_their_join.Goals as goal

pub returns-clause-converts : goal.returns-clause-converts
returns-clause-converts g c = converts_in_turn _ _ _ _ _ _ _ _ _ _ c.convert_entry.ensures.scans

pub returns-clause-join : goal.returns-clause-join
returns-clause-join g c = converts_join _ _ _ _ _ _ _ _ _ _ c.convert_entry.ensures.scans

pub returns-clause-symbols : goal.returns-clause-symbols
returns-clause-symbols g c = converts_symbols _ _ _ _ _ _ _ _ _ _ c.convert_entry.ensures.scans

pub returns-clause-rest : goal.returns-clause-rest
returns-clause-rest g c = converts_leaves _ _ _ _ _ _ _ _ _ _ c.convert_entry.ensures.scans

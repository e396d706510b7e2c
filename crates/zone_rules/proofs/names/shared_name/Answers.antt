use Rattle.std.proofs.Common.{ℕ, Some, List, sym, ap, subst, ◌∙◌}
use Rattle.rdata_tokens.specs.NameSpelling.{IsWireName}
use Rattle.dns_wire.specs.Labelled.{wire_same}
use Rattle.zone_rules.specs.Above.{is_within}
use Rattle.zone_rules.proofs.SharedNames.{shared_cut}
use Rattle.zone_rules.proofs.names.shared_name.Goals as goal

pub overflow_sub-octets : goal.overflow_sub-octets
overflow_sub-octets c =
    let e = c.octets_of-known.ensures in
    (shared_cut (is_within c.args.other.now) c.args.name.now c.as_octets-octets.result.now.now c.shared_length-count.result e.is_name e.absolute e.is_wire c.as_octets-octets.ensures c.shared_length-count.ensures).fits

pub name_of-requires : goal.name_of-requires
name_of-requires c =
    let e = c.octets_of-known.ensures in
    let cut = shared_cut (is_within c.args.other.now) c.args.name.now c.as_octets-octets.result.now.now c.shared_length-count.result e.is_name e.absolute e.is_wire c.as_octets-octets.ensures c.shared_length-count.ensures in
    subst IsWireName (sym cut.whole) cut.name_of_end

pub returns : goal.returns
returns c =
    let e = c.octets_of-known.ensures in
    let cut = shared_cut (is_within c.args.other.now) c.args.name.now c.as_octets-octets.result.now.now c.shared_length-count.result e.is_name e.absolute e.is_wire c.as_octets-octets.ensures c.shared_length-count.ensures in
    cut.found ∙ ap (λ (l : List (List ℕ)). Some l) (wire_same cut.end c.name_of.result (sym cut.whole ∙ c.name_of.ensures))

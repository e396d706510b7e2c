use Rattle.std.proofs.Common.{ℕ, ◌≡◌, ◌+◌, ◌-◌, List, length, take, drop, get_or, sym, subst, arith}
use Rattle.dns_wire.specs.Wire.{wire, IsName, EndsInRoot}
use Rattle.rdata_tokens.specs.NameSpelling.{IsWireName}
use Rattle.rdata_tokens.specs.Spelling.{AreOctetValues}
use Rattle.zone_rules.proofs.NameParts.{HasParent, parent_cut, no_parent, parent_slice, parent_same}
use Rattle.zone_rules.proofs.names.parent.Goals as goal

-- the octets after the first label are those of the parent
cut : (labels : List (List ℕ)) (octets : List ℕ) (count : ℕ) → IsName labels → EndsInRoot labels → IsWireName (wire labels) → octets ≡ wire labels → count ≡ get_or octets 0 0
    → (1 + count ≡ 1 → ⊥) → HasParent labels (take (length octets - (1 + count)) (drop (1 + count) octets))
cut labels octets count n a w whole first some =
    subst (HasParent labels) (parent_slice octets count)
    (subst (λ k. HasParent labels (drop (1 + k) octets)) (sym first)
    (parent_cut labels octets n a (subst AreOctetValues (sym whole) w.values) whole (λ none. some (omega (arith, first, none)))))

pub returns-then-behind-eq1 : goal.returns-then-behind-eq1
returns-then-behind-eq1 c =
    let e = c.octets_of-known.ensures in
    sym (no_parent c.args.name.now c.as_octets-octets.result.now.now e.is_name c.as_octets-octets.ensures (omega (arith, c.from-behind.ensures)))

pub name_of-requires : goal.name_of-requires
name_of-requires c =
    let e = c.octets_of-known.ensures in
    (cut c.args.name.now c.as_octets-octets.result.now.now c.from-behind.result e.is_name e.absolute e.is_wire c.as_octets-octets.ensures (omega (arith, c.from-behind.ensures))
    c.if-behind-eq1.false).name

pub returns : goal.returns
returns c =
    let e = c.octets_of-known.ensures in
    parent_same c.args.name.now c.name_of.result _
    (cut c.args.name.now c.as_octets-octets.result.now.now c.from-behind.result e.is_name e.absolute e.is_wire c.as_octets-octets.ensures (omega (arith, c.from-behind.ensures))
    c.if-behind-eq1.false)
    c.name_of.ensures

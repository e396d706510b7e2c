-- Which NS the two sides of a zone cut don't share.
use Rattle.std.proofs.Common.{ℕ, ◌≡◌, ◌<◌, Bool, true, false, Option, Some, None, List, length, refl, sym, ap, ◌∙◌}
use Rattle.std.specs.Prelude.{◌&&◌, ◌||◌, is_some, option_and_then, slice_get}
use Rattle.std.specs.List.{find, list_any}
use Rattle.rdata_values.specs.Rtype as Rtype
use Rattle.zone_record.specs.declared.record.Record.{Record}
use Rattle.zone_rules.specs.Zones.{has_type_at}
use Rattle.zone_cuts.specs.Servers.{has_other_server, have_other_servers, is_other_server_at, IsServerDifference}
use Rattle.zone_cuts.specs.declared.servers.ServerDifference.TheVariants.{OfChild, OfParent}
use Rattle.zone_cuts.proofs.OwnRecords.{any_is_found, get_within}

module _ {N O M P : Type 0} (name : List (List ℕ)) (parent : List (Record N O)) (child : List (Record M P)) where
  abbrev differ : Bool → Bool → Bool → Bool → Bool
  differ a b c d = a && (b && (c || d))

  pub none_there : has_type_at Rtype.ns name parent ≡ false → IsServerDifference name parent child None
  none_there h = ap (λ b. b && (has_type_at Rtype.ns name child && (has_other_server name parent child || has_other_server name child parent))) h

  no_second : (a b : Bool) → (a && (false && b)) ≡ false
  no_second true b = refl
  no_second false b = refl

  pub none_here : has_type_at Rtype.ns name child ≡ false → IsServerDifference name parent child None
  none_here h =
      ap (λ b. has_type_at Rtype.ns name parent && (b && (has_other_server name parent child || has_other_server name child parent))) h
      ∙ no_second (has_type_at Rtype.ns name parent) (has_other_server name parent child || has_other_server name child parent)

  module _ (p : has_type_at Rtype.ns name parent ≡ true) (c : has_type_at Rtype.ns name child ≡ true) where
    both : have_other_servers name parent child ≡ (has_other_server name parent child || has_other_server name child parent)
    both = ap (λ b. b && (has_type_at Rtype.ns name child && (has_other_server name parent child || has_other_server name child parent))) p
        ∙ ap (λ b. b && (has_other_server name parent child || has_other_server name child parent)) c

    pub of_child : (place : ℕ) → place < length child → slice_get child place ≡ find (is_other_server_at name parent) child → IsServerDifference name parent child (Some (OfChild place))
    of_child place lt e =
        let has : has_other_server name parent child ≡ true = sym (any_is_found (is_other_server_at name parent) child) ∙ ap is_some (sym e) ∙ get_within child place lt in
        (both ∙ ap (λ b. b || has_other_server name child parent) has, lt, e)

    pub of_parent : (place : ℕ) → None ≡ find (is_other_server_at name parent) child → place < length parent → slice_get parent place ≡ find (is_other_server_at name child) parent
        → IsServerDifference name parent child (Some (OfParent place))
    of_parent place n lt e =
        let lacks : has_other_server name parent child ≡ false = sym (any_is_found (is_other_server_at name parent) child) ∙ ap is_some (sym n) in
        let has : has_other_server name child parent ≡ true = sym (any_is_found (is_other_server_at name child) parent) ∙ ap is_some (sym e) ∙ get_within parent place lt in
        (both ∙ ap (λ b. b || has_other_server name child parent) lacks ∙ has, lt, e, lacks)

    pub of_neither : None ≡ find (is_other_server_at name parent) child → None ≡ find (is_other_server_at name child) parent → IsServerDifference name parent child None
    of_neither n m =
        let one : has_other_server name parent child ≡ false = sym (any_is_found (is_other_server_at name parent) child) ∙ ap is_some (sym n) in
        let other : has_other_server name child parent ≡ false = sym (any_is_found (is_other_server_at name child) parent) ∙ ap is_some (sym m) in
        both ∙ ap (λ b. b || has_other_server name child parent) one ∙ other

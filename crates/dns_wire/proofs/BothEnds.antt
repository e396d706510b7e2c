-- Labels yielded from both ends are each label once.
use Rattle.std.proofs.Common.{◌≡◌, ℕ, ◌⊎◌, ⊎_elim, List, [], ◌∷◌, ◌++◌, Some, None, sym, ap, ◌∙◌, append_assoc, append-nil}
use Rattle.std.specs.List.{FoldsTo}
use Rattle.dns_wire.specs.Label.{label_octets}
use Rattle.dns_wire.specs.LabelCalls.{LabelCall, from_front, from_back, yielded_first, backs, YieldsLabel}

pub both_ends : (labels left : List (List ℕ)) (takes : List LabelCall) → FoldsTo YieldsLabel labels takes left → labels ≡ yielded_first takes ++ (left ++ backs takes)
both_ends labels left [] p = p ∙ sym (append-nil left)
both_ends labels left (from_front None ∷ takes) p = p.1.0 ∙ sym p.1.1 ∙ both_ends p.0 left takes p.2
both_ends labels left (from_front (Some x) ∷ takes) p = p.1 ∙ ap (λ u. label_octets x ∷ u) (both_ends p.0 left takes p.2)
both_ends labels left (from_back None ∷ takes) p =
    p.1.0 ∙ sym p.1.1 ∙ both_ends p.0 left takes p.2 ∙ ap (λ u. yielded_first takes ++ (left ++ u)) (sym (append-nil (backs takes)))
both_ends labels left (from_back (Some x) ∷ takes) p =
    let last = label_octets x ∷ [] in
    p.1 ∙ ap (λ u. u ++ last) (both_ends p.0 left takes p.2) ∙ append_assoc (yielded_first takes) (left ++ backs takes) last
    ∙ ap (λ u. yielded_first takes ++ u) (append_assoc left (backs takes) last)

-- once an end yielded none, none remains
pub ends_met : (labels left end : List (List ℕ)) (takes : List LabelCall) → FoldsTo YieldsLabel labels takes left
    → YieldsLabel left (from_front None) end ⊎ YieldsLabel left (from_back None) end → labels ≡ yielded_first takes ++ backs takes
ends_met labels left end takes p none =
    both_ends labels left takes p ∙ ap (λ u. yielded_first takes ++ (u ++ backs takes)) (⊎_elim (λ a. a.0) (λ b. b.0) none)

-- What comes first of the parts of a text.
use Rattle.std.proofs.Common.{◌≡◌, Bool, true, List, [], ◌∷◌, ◌++◌, refl, sym, ◌∙◌, subst, inl, inr, Option, Some, None}
use Rattle.std.specs.Prelude.{Result, Ok, option_map, is_some}
use Rattle.std.specs.Option.{option_to_list}
use Rattle.std.specs.Iterator.{YieldsFirstBy}
use Rattle.dns_lexer.specs.declared.pieces.Fault.{Fault}
use Rattle.dns_lexer.specs.declared.entry_tokens.EntryPart.{EntryPart}
use Rattle.dns_lexer.specs.declared.entry_tokens.EntryPart.TheVariants.{Token as TokenOf}
use Rattle.dns_lexer.specs.declared.entry_tokens.EntryToken.{EntryToken}
use Rattle.dns_lexer.specs.EntryTokens.{IsInEntries, IsOpen, PartSeen, answer_seen}
use Rattle.zone_reader.specs.Source.{IsOpenBefore}

abbrev pub Parts : Type 0
Parts = List (Result PartSeen Fault)

abbrev pub Next : Type 0
Next = Option (Result EntryPart Fault)

-- the part that was looked at comes before the others
abbrev pub with_next : Next → Parts → Parts
with_next next parts = option_to_list (option_map answer_seen next) ++ parts

module _ (old new : Parts) (next : Next) (looks : YieldsFirstBy answer_seen (λ (left : Parts). left) old next new) where
  pub looked_at : old ≡ with_next next new
  looked_at = go next looks
    where
      go : (n : Next) → YieldsFirstBy answer_seen (λ (left : Parts). left) old n new → old ≡ with_next n new
      go None h = h.0 ∙ sym h.1
      go (Some x) h = h

  pub opens_before : IsInEntries old → IsOpenBefore next new
  opens_before i = go next looks i
    where
      go : (n : Next) → YieldsFirstBy answer_seen (λ (left : Parts). left) old n new → IsInEntries old → IsOpenBefore n new
      go None h k = tt
      go (Some x) h (inl e) = let none : [] ≡ answer_seen x ∷ new = sym e ∙ h in cc
      go (Some x) h (inr o) = (o.0, subst (IsOpen o.0) h o.1)

  -- after a token of an entry that is open something comes
  module _ (token : EntryToken) (b : Bool) (o : IsOpenBefore (Some (Ok (TokenOf token b))) old) where
    pub opens_after : IsOpenBefore next new
    opens_after = opens_before (inr (o.0, o.1.1))

    pub some_after : is_some next ≡ true
    some_after = go next looks
      where
        go : (n : Next) → YieldsFirstBy answer_seen (λ (left : Parts). left) old n new → is_some n ≡ true
        go None h = elim (subst (IsOpen o.0) h.0 o.1.1) [ ]
        go (Some x) h = refl

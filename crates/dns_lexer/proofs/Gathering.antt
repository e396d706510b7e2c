-- The tokens of an entry, collected one by one.
use Rattle.std.proofs.Common.{◌≡◌, Bool, false, List, [], ◌∷◌, ◌++◌, refl, sym, ap, ◌∙◌, subst, append_assoc, inl, inr, ◌⊎◌}
use Rattle.std.specs.Prelude.{Some, None, Result, Ok, Err}
use Rattle.std.proofs.lemmas.List.{map-append}
use Rattle.dns_lexer.specs.declared.pieces.EndOfEntry.{EndOfEntry}
use Rattle.dns_lexer.specs.declared.pieces.Fault.{Fault}
use Rattle.dns_lexer.specs.declared.entry_tokens.EntryToken.{EntryToken}
use Rattle.dns_lexer.specs.declared.entry_tokens.NextEntryError.TheVariants.{BadText}
use Rattle.dns_lexer.specs.EntryTokens.{BeginsToken, ReturnsEntry, IsInEntries, IsOpen, PartSeen, TokenIs, EndIs, token_seen, tokens_seen}

-- the tokens before, and what remains: the entry is open, or nothing was there
pub record Gathers (old now : List (Result PartSeen Fault)) (tokens : List EntryToken) : Type 0 where
  pub blank : Bool
  pub is : old ≡ tokens_seen blank tokens ++ now
  pub rest : IsOpen blank now ⊎ ((tokens ≡ []) × (now ≡ []))

pub gathers_none : (old : List (Result PartSeen Fault)) → IsInEntries old → Gathers old old []
gathers_none old (inl e) = record { blank = false; is = refl; rest = inr (refl, e) }
gathers_none old (inr o) = record { blank = o.0; is = refl; rest = inl o.1 }

module _ (old now new : List (Result PartSeen Fault)) (tokens : List EntryToken) (g : Gathers old now tokens) where
  still_open : (x : Result PartSeen Fault) → now ≡ x ∷ new → IsOpen g.blank (x ∷ new)
  still_open x e = go g.rest
    where
      go : IsOpen g.blank now ⊎ ((tokens ≡ []) × (now ≡ [])) → IsOpen g.blank (x ∷ new)
      go (inl o) = subst (IsOpen g.blank) e o
      go (inr n) = let none : [] ≡ x ∷ new = sym n.1 ∙ e in cc

  pub gathers_more : (t : EntryToken) (b : Bool) → now ≡ Ok (TokenIs (token_seen t) b) ∷ new → Gathers old new (tokens ++ t ∷ [])
  gathers_more t b e =
      let o = still_open (Ok (TokenIs (token_seen t) b)) e in
      record {
        blank = g.blank;
        is = g.is ∙ ap (λ l. tokens_seen g.blank tokens ++ l) (e ∙ ap (λ x. Ok (TokenIs (token_seen t) x) ∷ new) o.0)
            ∙ sym (append_assoc (tokens_seen g.blank tokens) (tokens_seen g.blank (t ∷ [])) new) ∙ ap (λ l. l ++ new) (sym (map-append _ tokens (t ∷ [])));
        rest = inl o.1;
      }

  pub gives_end : (end : EndOfEntry) → now ≡ Ok (EndIs end) ∷ new → ReturnsEntry old tokens (Ok (Some end)) new
  gives_end end e =
      let same : end.begins_blank ≡ g.blank = still_open (Ok (EndIs end)) e in
      g.is ∙ ap (λ l. tokens_seen g.blank tokens ++ l) e ∙ ap (λ b. tokens_seen b tokens ++ Ok (EndIs end) ∷ new) (sym same)

  pub gives_fault : (f : Fault) → now ≡ Err f ∷ new → ReturnsEntry old tokens (Err (BadText f)) new
  gives_fault f e = (g.blank, g.is ∙ ap (λ l. tokens_seen g.blank tokens ++ l) e, still_open (Err f) e)

  pub gives_room : (t : EntryToken) (b : Bool) → now ≡ Ok (TokenIs (token_seen t) b) ∷ new → BeginsToken old
  gives_room t b e = subst BeginsToken (sym (g.is ∙ ap (λ l. tokens_seen g.blank tokens ++ l) e)) (token_first tokens)
    where
      token_first : (ts : List EntryToken) → BeginsToken (tokens_seen g.blank ts ++ Ok (TokenIs (token_seen t) b) ∷ new)
      token_first [] = tt
      token_first (x ∷ xs) = tt

  pub gives_none : now ≡ [] → new ≡ [] → ReturnsEntry old tokens (Ok None) new
  gives_none e n = go g.rest
    where
      go : IsOpen g.blank now ⊎ ((tokens ≡ []) × (now ≡ [])) → ReturnsEntry old tokens (Ok None) new
      go (inl o) = elim (subst (IsOpen g.blank) e o) [ ]
      go (inr k) = (g.is ∙ ap (λ l. tokens_seen g.blank l ++ now) k.0 ∙ e, k.0, n)

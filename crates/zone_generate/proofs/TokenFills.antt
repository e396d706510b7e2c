-- The first tokens of an entry, collected one by one.
use Rattle.std.proofs.Common.{append-nil, ℕ, ◌≡◌, ◌<◌, ◌≤◌, ◌+◌, ◌⊎◌, inl, inr, Bool, List, [], ◌∷◌, ◌++◌, length, refl, sym, ap, subst, ◌∙◌, arith, append_assoc, take}
use Rattle.std.specs.Prelude.{Result, Ok, Err, map}
use Rattle.std.proofs.lemmas.List.{length-map, map-append, take_all, take_more_set, take-append-le, length-take-le}
use Rattle.std.proofs.Math.ListN.{set}
use Rattle.dns_lexer.specs.declared.pieces.EndOfEntry.{EndOfEntry}
use Rattle.dns_lexer.specs.declared.pieces.Fault.{Fault}
use Rattle.dns_lexer.specs.declared.entry_tokens.EntryToken.{EntryToken}
use Rattle.dns_lexer.specs.EntryTokens.{EndIs, IsInEntries, IsOpen, IsSeen, PartSeen, TokenIs, TokenSeen, token_seen}
use Rattle.zone_generate.specs.Tokens.{EndsNext, HasFault, HasFirstTokens, after_tokens, entry_tokens}

abbrev Parts : Type 0
Parts = List (Result PartSeen Fault)

-- the tokens that are stored, the first ones of the entry, and what is left of it
pub record Fills (seen now : Parts) (tokens : List EntryToken) (count : ℕ) : Type 0 where
  pub size : length tokens ≡ 8
  pub within : count ≤ 8
  pub same : take 8 (entry_tokens seen) ≡ take 8 (map token_seen (take count tokens) ++ entry_tokens now)
  pub after : after_tokens seen ≡ after_tokens now

pub fills_none : (seen : Parts) (tokens : List EntryToken) → length tokens ≡ 8 → Fills seen seen tokens 0
fills_none seen tokens size = record { size = size; within = omega arith; same = refl; after = refl }

module _ (seen now new : Parts) (tokens : List EntryToken) (count : ℕ) (h : Fills seen now tokens count) where
  abbrev stored : List TokenSeen
  stored = map token_seen (take count tokens)

  stored_size : length stored ≡ count
  stored_size = length-map (take count tokens) token_seen ∙ length-take-le count tokens (omega (arith, h.within, h.size))

  -- one more is stored
  pub fills_more : (t : EntryToken) (b : Bool) (set_tokens : List EntryToken) → count < 8 → now ≡ Ok (TokenIs (token_seen t) b) ∷ new → set_tokens ≡ set tokens count t → length set_tokens ≡ length tokens → Fills seen new set_tokens (count + 1)
  fills_more t b set_tokens few is put size = record {
    size = size ∙ h.size;
    within = omega (arith, few);
    same = h.same ∙ ap (λ l. take 8 (stored ++ entry_tokens l)) is ∙ ap (take 8) (sym (append_assoc stored (token_seen t ∷ []) (entry_tokens new)))
        ∙ ap (λ l. take 8 (l ++ entry_tokens new)) (sym (map-append token_seen (take count tokens) (t ∷ [])) ∙ ap (map token_seen) (sym (take_more_set tokens count t (omega (arith, few, h.size))) ∙ ap (take (count + 1)) (sym put)));
    after = h.after ∙ ap after_tokens is;
  }

  -- or no more are
  pub fills_enough : (t : TokenSeen) (b : Bool) → 8 ≤ count → now ≡ Ok (TokenIs t b) ∷ new → Fills seen new tokens count
  fills_enough t b full is = record {
    size = h.size;
    within = h.within;
    same = h.same ∙ take-append-le 8 stored (entry_tokens now) (omega (arith, full, stored_size)) ∙ sym (take-append-le 8 stored (entry_tokens new) (omega (arith, full, stored_size)));
    after = h.after ∙ ap after_tokens is;
  }

  ended : entry_tokens now ≡ [] → map token_seen (take count tokens) ≡ take 8 (entry_tokens seen)
  ended none = sym (h.same ∙ ap (λ l. take 8 (stored ++ l)) none ∙ ap (take 8) (append-nil stored) ∙ take_all 8 stored (omega (arith, h.within, stored_size)))

  pub fills_to_end : (octets : List ℕ) (e : EndOfEntry) → IsSeen octets seen → now ≡ Ok (EndIs e) ∷ new → HasFirstTokens octets (map token_seen (take count tokens))
  fills_to_end octets e s is = (seen, s, ended (ap entry_tokens is), subst EndsNext (sym (h.after ∙ ap after_tokens is)) tt)

  pub fills_all : (octets : List ℕ) → IsSeen octets seen → now ≡ [] → HasFirstTokens octets (map token_seen (take count tokens))
  fills_all octets s is = (seen, s, ended (ap entry_tokens is), subst EndsNext (sym (h.after ∙ ap after_tokens is)) tt)

  pub fills_to_fault : (octets : List ℕ) (f : Fault) → IsSeen octets seen → IsInEntries now → now ≡ Err f ∷ new → HasFault octets f
  fills_to_fault octets f s among is = (seen, s, h.after ∙ ap after_tokens is ∙ ap (λ l. Err f ∷ l) (none among))
    where
      none : IsInEntries now → new ≡ []
      none (inl e) = let no : [] ≡ Err f ∷ new = sym e ∙ is in cc
      none (inr o) = subst (IsOpen o.0) is o.1

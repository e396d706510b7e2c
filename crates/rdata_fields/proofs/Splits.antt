-- Two ways to split tokens.
use Rattle.std.proofs.Common.{◌≡◌, ◌⊎◌, List, [], ◌∷◌, ◌++◌, refl, ap, sym, inl, inr}
use Rattle.dns_lexer.specs.EntryTokens.{TokenSeen}

-- the first part is that of the other way, and the next token is in the other's first part
pub record GoesOn (before left others : List TokenSeen) : Type 0 where
  pub token : TokenSeen
  pub later : List TokenSeen
  pub more : List TokenSeen
  pub next : left ≡ token ∷ later
  pub whole : others ≡ before ++ token ∷ more

-- tokens are split at one place, or one of two places comes first
pub two_splits : (before others left last : List TokenSeen) → before ++ left ≡ others ++ last → ((before ≡ others) × (left ≡ last)) ⊎ (GoesOn before left others ⊎ GoesOn others last before)
two_splits [] [] left last is = inl (refl, is)
two_splits [] (u ∷ us) left last is = inr (inl (record { token = u; later = us ++ last; more = us; next = is; whole = refl }))
two_splits (t ∷ ts) [] left last is = inr (inr (record { token = t; later = ts ++ left; more = ts; next = sym is; whole = refl }))
two_splits (t ∷ ts) (u ∷ us) left last is = later (two_splits ts us left last (cc is))
  where
    head : t ≡ u
    head = cc is

    later : ((ts ≡ us) × (left ≡ last)) ⊎ (GoesOn ts left us ⊎ GoesOn us last ts) → ((t ∷ ts ≡ u ∷ us) × (left ≡ last)) ⊎ (GoesOn (t ∷ ts) left (u ∷ us) ⊎ GoesOn (u ∷ us) last (t ∷ ts))
    later (inl h) = inl (cc (head, h.0), h.1)
    later (inr (inl h)) = inr (inl (record { token = h.token; later = h.later; more = h.more; next = h.next; whole = cc (head, h.whole) }))
    later (inr (inr h)) = inr (inr (record { token = h.token; later = h.later; more = h.more; next = h.next; whole = cc (head, h.whole) }))

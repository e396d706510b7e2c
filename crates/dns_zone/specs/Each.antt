-- Values in a row, a token each: their document, and that it is well-formed.
use Rattle.std.specs.Prelude.{ℕ, List, [], ◌∷◌}
use Rattle.std.proofs.Common.{◌≡◌, false, refl}
use Rattle.std.specs.List.{All, AllByRecursion}
use Rattle.std.proofs.lemmas.List.Elements.{All-head, All-tail}
use Rattle.dns_lexer.specs.Token.{IsToken}
use Rattle.dns_zone.specs.Documents.{IsProper, IsWellFormed}
use Rattle.dns_zone.specs.Nesting.{IsNested, has_line}
use Rattle.dns_zone.specs.Tokens.{one_each}
use Rattle.dns_zone.specs.declared.tokens.Each.{Each}

-- the values
abbrev pub each_values : {T : Type 0} → Each T → List T
each_values e = e.items.now

-- ---- lemmas

module _ {T : Type 0} (text : T → List ℕ) where
  -- tokens alone open no block
  pub each_nested : (xs : List T) → IsNested (one_each text xs)
  each_nested [] = refl
  each_nested (x ∷ xs) = each_nested xs

  -- and end no line
  pub each_one_line : (xs : List T) → has_line (one_each text xs) ≡ false
  each_one_line [] = refl
  each_one_line (x ∷ xs) = each_one_line xs

  each_proper : (holds : T → Type 0) → ((x : T) → holds x → IsToken (text x)) → (xs : List T) → All holds xs → AllByRecursion IsProper (one_each text xs)
  each_proper holds is [] h = tt
  each_proper holds is (x ∷ xs) h = (is x (All-head holds x xs h), each_proper holds is xs (All-tail holds x xs h))

  -- if each text is a token, they are a document
  pub each_formed : (holds : T → Type 0) → ((x : T) → holds x → IsToken (text x)) → (xs : List T) → All holds xs → IsWellFormed (one_each text xs)
  each_formed holds is xs h = (each_nested xs, each_proper holds is xs h)

-- Arguments that are parsed in order, each as one item.
use Rattle.std.proofs.Common.{◌≡◌, ℕ, Result, Ok, Err, ◌+◌, List, [], ◌∷◌, ◌++◌, map, drop, refl, sym, ap, ◌∙◌, append_assoc, append-nil}
use Rattle.std.specs.Prelude.{IsErr, MatchResult}
use Rattle.std.proofs.lemmas.List.{map-append}
use Rattle.std.specs.Borrow.{Bor}
use Rattle.dnstext_lib.specs.Program.{bytes_of_words}
use Rattle.dnstext_lib.specs.Print.{BeginsBy}

-- the text of an error, whatever it is
pub when_err : {T E : Type 0} (P : T → Type 0) (Q : E → Type 0) (r : Result T E) → IsErr r → ((e : E) → Q e) → MatchResult r P Q
when_err P Q (Ok v) h k = cc
when_err P Q (Err e) h k = k e

module _ {Y X : Type 0} (of : Y → X) (word : X → List ℕ) where
  -- the words are those of what was read, and those but the first `i`
  abbrev pub ReadInTurn : List (Bor (List ℕ)) → ℕ → List Y → Type 0
  ReadInTurn words i found = bytes_of_words words ≡ map word (map of found) ++ bytes_of_words (drop i words)

  pub read_none : (words : List (Bor (List ℕ))) → ReadInTurn words 0 []
  read_none words = refl

  -- the next word, and those after it
  read_next : (words : List (Bor (List ℕ))) (i : ℕ) (found : List Y) (w : Bor (List ℕ)) → drop i words ≡ w ∷ drop (i + 1) words → ReadInTurn words i found
      → bytes_of_words words ≡ map word (map of found) ++ w.now ∷ bytes_of_words (drop (i + 1) words)
  read_next words i found w at r = r ∙ ap (λ l. map word (map of found) ++ bytes_of_words l) at

  pub read_more : (words : List (Bor (List ℕ))) (i : ℕ) (found more : List Y) (w : Bor (List ℕ)) (y : Y) → drop i words ≡ w ∷ drop (i + 1) words → w.now ≡ word (of y) → more ≡ found ++ y ∷ []
      → ReadInTurn words i found → ReadInTurn words (i + 1) more
  read_more words i found more w y at is longer r =
      let rest = bytes_of_words (drop (i + 1) words) in
      read_next words i found w at r ∙ ap (λ t. map word (map of found) ++ t ∷ rest) is
      ∙ sym (append_assoc (map word (map of found)) (word (of y) ∷ []) rest)
      ∙ ap (λ l. l ++ rest) (sym (map-append word (map of found) (of y ∷ [])) ∙ ap (map word) (sym (map-append of found (y ∷ []))) ∙ ap (λ l. map word (map of l)) (sym longer))

  pub read_all : (words : List (Bor (List ℕ))) (i : ℕ) (found : List Y) → drop i words ≡ [] → ReadInTurn words i found → bytes_of_words words ≡ map word (map of found)
  read_all words i found at r = r ∙ ap (λ l. map word (map of found) ++ bytes_of_words l) at ∙ append-nil (map word (map of found))

  -- an argument after others, if all request something, requests something too
  word_after : (front rest : List (List ℕ)) (w : List ℕ) (all : List X) → front ++ w ∷ rest ≡ map word all → (x : X) × (w ≡ word x)
  word_after [] rest w [] e = cc
  word_after [] rest w (x ∷ xs) e = (x, cc)
  word_after (f ∷ fs) rest w [] e = cc
  word_after (f ∷ fs) rest w (x ∷ xs) e = word_after fs rest w xs cc

  pub read_unknown : (words : List (Bor (List ℕ))) (i : ℕ) (found : List Y) (w : Bor (List ℕ)) → drop i words ≡ w ∷ drop (i + 1) words → ((x : X) → w.now ≡ word x → ⊥)
      → ReadInTurn words i found → (all : List X) → bytes_of_words words ≡ map word all → ⊥
  read_unknown words i found w at none r all e =
      let other = word_after (map word (map of found)) (bytes_of_words (drop (i + 1) words)) w.now all (sym (read_next words i found w at r) ∙ e) in
      none other.0 other.1

  -- the first argument requests something, if the next one does
  begins_by : (words : List (List ℕ)) (found : List Y) (x : X) (rest : List (List ℕ)) → words ≡ map word (map of found) ++ word x ∷ rest → BeginsBy word words
  begins_by words [] x rest e = (x, rest, e)
  begins_by words (y ∷ ys) x rest e = (of y, map word (map of ys) ++ word x ∷ rest, e)

  pub read_begins : (words : List (Bor (List ℕ))) (i : ℕ) (found : List Y) (w : Bor (List ℕ)) (x : X) → drop i words ≡ w ∷ drop (i + 1) words → w.now ≡ word x
      → ReadInTurn words i found → BeginsBy word (bytes_of_words words)
  read_begins words i found w x at is r =
      begins_by (bytes_of_words words) found x (bytes_of_words (drop (i + 1) words)) (read_next words i found w at r ∙ ap (λ t. map word (map of found) ++ t ∷ bytes_of_words (drop (i + 1) words)) is)

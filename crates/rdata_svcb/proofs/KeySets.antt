-- Sets of keys, and their octets in ascending order.
use Rattle.std.proofs.Common.{ℕ, zero, suc, ◌≡◌, ◌≢◌, ◌<◌, ◌≤◌, ◌+◌, ◌||◌, ◌==◌, Bool, true, false, cond, List, [], ◌∷◌, ◌++◌, length, get_or, refl, sym, ap, ◌∙◌, arith, Option, Some, append_assoc, append-nil}
use Rattle.std.specs.Int.{w16, to_be_bytes}
use Rattle.std.specs.List.{AllPairs}
use Rattle.std.proofs.lemmas.List.Folds.{list_any-append}
use Rattle.std.proofs.lemmas.List.Quantifiers.{all_pairs_push}
use Rattle.std.proofs.lemmas.Bool.{eq-eqb}
use Rattle.dns_octets.specs.Appending.{Gains}
use Rattle.rdata_values.specs.Bitmap.{has, SameTypes}
use Rattle.rdata_svcb.specs.Items.{IsWithout, SpellsApart}
use Rattle.rdata_svcb.specs.ParamValues.{NamesAKey, SpellsKeys, keys_from, keys_wire}
use Rattle.rdata_svcb.proofs.Apart.{TakesApart, IsSplit, apart_none, apart_more}

pub record TakesKeys (text : List ℕ) (left : Option (List ℕ)) (set : List ℕ) : Type 0 where
  pub keys : List ℕ
  pub taken : TakesApart NamesAKey text keys left
  pub once : AllPairs (λ a b. a ≢ b) keys
  pub same : SameTypes set keys

pub keys_none : (text set : List ℕ) → set ≡ [] → TakesKeys text (Some text) set
keys_none text set e = record {
  keys = [];
  taken = apart_none NamesAKey text;
  once = λ i j d l m. absurd (omega (arith, m));
  same = λ code l. ap (λ s. has s code) e;
}

turned : (a b : Bool) → (a || b) ≡ (b || (a || false))
turned true true = refl
turned true false = refl
turned false true = refl
turned false false = refl

first_true : (a b : Bool) → (a || b) ≡ false → a ≡ true → ⊥
first_true true b h e = cc
first_true false b h e = cc

second_false : (a b : Bool) → (a || b) ≡ false → b ≡ false
second_false true b h = cc
second_false false b h = h

-- a key that is not in a list differs from each of its keys
pub is_none : (keys : List ℕ) (code : ℕ) → has keys code ≡ false → (k d : ℕ) → k < length keys → get_or keys k d ≢ code
is_none [] code h k d l e = omega (arith, l)
is_none (x ∷ xs) code h zero d l e = first_true (x == code) (has xs code) h (eq-eqb x code e)
is_none (x ∷ xs) code h (suc k) d l e = is_none xs code (second_false (x == code) (has xs code) h) k d (omega (arith, l)) e

pub keys_more : (text rest before set new : List ℕ) (behind : Option (List ℕ)) (code : ℕ) → TakesKeys text (Some rest) set → IsWithout 44 before → IsSplit rest before behind
    → NamesAKey before code → code < 65536 → has set code ≡ false → SameTypes new (code ∷ set) → TakesKeys text behind new
keys_more text rest before set new behind code h without split named small absent is = record {
  keys = h.keys ++ code ∷ [];
  taken = apart_more NamesAKey text rest before h.keys behind code h.taken without split named;
  once = all_pairs_push (λ a b. a ≢ b) h.keys code h.once (λ k d l. is_none h.keys code (sym (h.same code small) ∙ absent) k d l);
  same = λ c l. is c l ∙ ap (λ b. (code == c) || b) (h.same c l) ∙ turned (code == c) (has h.keys c) ∙ sym (list_any-append (λ t. t == c) h.keys (code ∷ []));
}

pub keys_first : (keys : List ℕ) (w n : ℕ) → keys_from keys w (suc n) ≡ cond (has keys w) (to_be_bytes w16 w) [] ++ keys_from keys (w + 1) n
unfolding keys_from
keys_first keys w n = refl

pub keys_zero : (keys : List ℕ) (w : ℕ) → keys_from keys w 0 ≡ []
unfolding keys_from
keys_zero keys w = refl

pub keys_begin : (keys old : List ℕ) → old ≡ old ++ keys_from keys 0 0
keys_begin keys old = sym (append-nil old) ∙ ap (λ x. old ++ x) (sym (keys_zero keys 0))

-- without keys there are no octets
pub keys_none_from : (keys : List ℕ) (w n : ℕ) → ((code : ℕ) → w ≤ code → code < w + n → has keys code ≡ false) → keys_from keys w n ≡ []
keys_none_from keys w zero none = keys_zero keys w
keys_none_from keys w (suc n) none =
    keys_first keys w n ∙ ap (λ t. cond t (to_be_bytes w16 w) [] ++ keys_from keys (w + 1) n) (none w (omega arith) (omega arith))
    ∙ keys_none_from keys (w + 1) n (λ code l m. none code (omega (arith, l)) (omega (arith, m)))

-- the same keys have the same octets
same_octets : (a b : List ℕ) (w n : ℕ) → SameTypes a b → w + n ≤ 65536 → keys_from a w n ≡ keys_from b w n
same_octets a b w zero h l = keys_zero a w ∙ sym (keys_zero b w)
same_octets a b w (suc n) h l =
    keys_first a w n ∙ ap (λ t. cond t (to_be_bytes w16 w) [] ++ keys_from a (w + 1) n) (h w (omega (arith, l)))
    ∙ ap (λ x. cond (has b w) (to_be_bytes w16 w) [] ++ x) (same_octets a b (w + 1) n h (omega (arith, l))) ∙ sym (keys_first b w n)

-- the octets of a set are those of a text with the same keys
pub spells_wire : (text set spelled : List ℕ) → SpellsApart NamesAKey text spelled → AllPairs (λ a b. a ≢ b) spelled → SameTypes set spelled → SpellsKeys text (keys_wire set)
spells_wire text set spelled named once same = record { keys = spelled; named = named; once = once; whole = same_octets set spelled 0 65536 same (omega arith) }

pub spells_keys : (text set old new spelled : List ℕ) → SpellsApart NamesAKey text spelled → AllPairs (λ a b. a ≢ b) spelled → SameTypes set spelled → new ≡ old ++ keys_wire set → Gains (SpellsKeys text) old new
spells_keys text set old new spelled named once same e = (keys_wire set, spells_wire text set spelled named once same, e)

pub last_of : (keys : List ℕ) (w n : ℕ) → keys_from keys w (n + 1) ≡ keys_from keys w n ++ cond (has keys (w + n)) (to_be_bytes w16 (w + n)) []
last_of keys w zero =
    ap (keys_from keys w) (omega arith) ∙ keys_first keys w zero ∙ ap (λ x. cond (has keys w) (to_be_bytes w16 w) [] ++ x) (keys_zero keys (w + 1))
    ∙ append-nil (cond (has keys w) (to_be_bytes w16 w) []) ∙ ap (λ v. cond (has keys v) (to_be_bytes w16 v) []) (omega arith) ∙ ap (λ x. x ++ cond (has keys (w + zero)) (to_be_bytes w16 (w + zero)) []) (sym (keys_zero keys w))
last_of keys w (suc n) =
    ap (keys_from keys w) (omega arith) ∙ keys_first keys w (n + 1) ∙ ap (λ x. cond (has keys w) (to_be_bytes w16 w) [] ++ x) (last_of keys (w + 1) n)
    ∙ sym (append_assoc (cond (has keys w) (to_be_bytes w16 w) []) (keys_from keys (w + 1) n) (cond (has keys (w + 1 + n)) (to_be_bytes w16 (w + 1 + n)) []))
    ∙ ap (λ x. x ++ cond (has keys (w + 1 + n)) (to_be_bytes w16 (w + 1 + n)) []) (sym (keys_first keys w n))
    ∙ ap (λ v. keys_from keys w (suc n) ++ cond (has keys v) (to_be_bytes w16 v) []) (omega arith)

pub keys_next : (keys old now new : List ℕ) (k : ℕ) → now ≡ old ++ keys_from keys 0 k → new ≡ now ++ cond (has keys k) (to_be_bytes w16 k) [] → new ≡ old ++ keys_from keys 0 (k + 1)
keys_next keys old now new k e n =
    n ∙ ap (λ x. x ++ cond (has keys k) (to_be_bytes w16 k) []) e ∙ append_assoc old (keys_from keys 0 k) (cond (has keys k) (to_be_bytes w16 k) [])
    ∙ ap (λ v. old ++ (keys_from keys 0 k ++ cond (has keys v) (to_be_bytes w16 v) [])) (omega arith) ∙ ap (λ x. old ++ x) (sym (last_of keys 0 k))

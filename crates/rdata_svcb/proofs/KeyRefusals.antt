-- Names of keys that spell no keys, and keys that don't fit.
use Rattle.std.proofs.Common.{ℕ, zero, suc, ◌≡◌, ◌≢◌, ◌<◌, ◌≤◌, ◌+◌, ◌-◌, ◌||◌, ◌==◌, Bool, true, false, cond, List, [], ◌∷◌, ◌++◌, length, get_or, decimal, refl, sym, ap, subst, ◌∙◌, arith, Option, Some, None, append_assoc, append-nil}
use Rattle.std.specs.Prelude.{codes, MatchOption}
use Rattle.std.specs.Int.{w16, to_be_bytes}
use Rattle.std.specs.List.{AllPairs}
use Rattle.std.proofs.lemmas.Bool.{eqb-true}
use Rattle.std.proofs.lemmas.Fmt.{decimal_injective}
use Rattle.std.proofs.lemmas.List.{length-append, append_cancel_left, get_or-append-add}
use Rattle.rdata_values.specs.Bitmap.{has}
use Rattle.rdata_svcb.specs.declared.keys.ValueKind.{ValueKind}
use Rattle.rdata_svcb.specs.declared.keys.ValueKind.TheVariants.{Octets}
use Rattle.rdata_svcb.specs.Items.{IsWithout, SpellsApart}
use Rattle.rdata_svcb.specs.Keys.{KeyRow, named_row, key_rows, IsNumberedKey, NamesKey}
use Rattle.rdata_svcb.specs.ParamValues.{NamesAKey, SpellsKeys, keys_from, keys_wire}
use Rattle.rdata_svcb.proofs.Apart.{IsSplit}
use Rattle.rdata_svcb.proofs.KeySets.{TakesKeys, keys_first, keys_none_from, keys_zero, last_of}
use Rattle.rdata_svcb.proofs.Refusals.{SpellsOnce, apart_goes_on, apart_once}

abbrev Names : Option KeyRow → List ℕ → ℕ → ValueKind → Type 0
Names row text code kind = MatchOption row (IsNumberedKey text code × (kind ≡ Octets)) (λ r. (code ≡ r.code) × (kind ≡ r.kind))

names_once : (row : Option KeyRow) (text : List ℕ) (a b : ℕ) (k l : ValueKind) → Names row text a k → Names row text b l → (a ≡ b) × (k ≡ l)
names_once None text a b k l h j =
    let small = h.0.0 in let few = j.0.0 in
    (decimal_injective a b (omega arith) (omega arith) (append_cancel_left (codes "key") (decimal a) (decimal b) (sym h.0.1 ∙ j.0.1)), h.1 ∙ sym j.1)
names_once (Some r) text a b k l h j = (h.0 ∙ sym j.0, h.1 ∙ sym j.1)

-- a text names one key
pub key_once : (text : List ℕ) (a b : ℕ) (k l : ValueKind) → NamesKey text a k → NamesKey text b l → (a ≡ b) × (k ≡ l)
key_once text a b k l h j = names_once (named_row key_rows text) text a b k l h j

pub a_key_once : SpellsOnce NamesAKey
a_key_once text a b h k = (key_once text a b h.0 k.0 h.1 k.1).0

pub no_key_named : (text rest before set : List ℕ) (behind : Option (List ℕ)) (spelled : List ℕ) → TakesKeys text (Some rest) set → IsWithout 44 before → IsSplit rest before behind
    → ((code : ℕ) (kind : ValueKind) → NamesKey before code kind → ⊥) → SpellsApart NamesAKey text spelled → ⊥
no_key_named text rest before set behind spelled h without split none s =
    let on = apart_goes_on NamesAKey text rest before h.keys spelled behind a_key_once h.taken without split s in none on.0 on.3.0 on.3.1

place_by : (x code : ℕ) (xs : List ℕ) (b : Bool) → (x == code) ≡ b → (b || has xs code) ≡ true → (has xs code ≡ true → (k : ℕ) × (k < length xs) × (get_or xs k 0 ≡ code))
    → (k : ℕ) × (k < length (x ∷ xs)) × (get_or (x ∷ xs) k 0 ≡ code)
place_by x code xs true e t later = (0, omega arith, eqb-true x code e)
place_by x code xs false e t later = let rest = later t in (suc rest.0, omega (arith, rest.1), rest.2)

has_place : (keys : List ℕ) (code : ℕ) → has keys code ≡ true → (k : ℕ) × (k < length keys) × (get_or keys k 0 ≡ code)
has_place [] code h = absurd cc
has_place (x ∷ xs) code h = place_by x code xs (x == code) refl h (has_place xs code)

get_front : (xs ys : List ℕ) (k d : ℕ) → k < length xs → get_or (xs ++ ys) k d ≡ get_or xs k d
get_front [] ys k d l = absurd (omega (arith, l))
get_front (x ∷ xs) ys zero d l = refl
get_front (x ∷ xs) ys (suc k) d l = get_front xs ys k d (omega (arith, l))

-- a key that comes after keys which differ is not one of them
pub new_key : (keys more : List ℕ) (key : ℕ) → AllPairs (λ a b. a ≢ b) (keys ++ key ∷ more) → has keys key ≡ true → ⊥
new_key keys more key once there =
    let at = has_place keys key there in
    once at.0 (length keys) 0 at.1 (omega (arith, length-append keys (key ∷ more)))
    (get_front keys (key ∷ more) at.0 0 at.1 ∙ at.2 ∙ sym (ap (λ i. get_or (keys ++ key ∷ more) i 0) (omega arith) ∙ get_or-append-add keys (key ∷ more) 0 0))

pub key_repeated : (text rest before set : List ℕ) (behind : Option (List ℕ)) (code : ℕ) (spelled : List ℕ) → TakesKeys text (Some rest) set → IsWithout 44 before → IsSplit rest before behind
    → NamesAKey before code → code < 65536 → has set code ≡ true → SpellsApart NamesAKey text spelled → AllPairs (λ a b. a ≢ b) spelled → ⊥
key_repeated text rest before set behind code spelled h without split named small there s once =
    let on = apart_goes_on NamesAKey text rest before h.keys spelled behind a_key_once h.taken without split s in
    let same : code ≡ on.0 = a_key_once before code on.0 named on.3 in
    new_key h.keys on.1 on.0 (subst (AllPairs (λ a b. a ≢ b)) on.2 once) (ap (has h.keys) (sym same) ∙ sym (h.same code small) ∙ there)

keys_split : (keys : List ℕ) (w m n : ℕ) → keys_from keys w (m + n) ≡ keys_from keys w m ++ keys_from keys (w + m) n
keys_split keys w zero n = ap (keys_from keys w) (omega arith) ∙ ap (λ v. keys_from keys v n) (omega arith) ∙ ap (λ xs. xs ++ keys_from keys (w + zero) n) (sym (keys_zero keys w))
keys_split keys w (suc m) n =
    let here = cond (has keys w) (to_be_bytes w16 w) [] in
    ap (keys_from keys w) (omega arith) ∙ keys_first keys w (m + n) ∙ ap (λ xs. here ++ xs) (keys_split keys (w + 1) m n)
    ∙ sym (append_assoc here (keys_from keys (w + 1) m) (keys_from keys (w + 1 + m) n))
    ∙ ap (λ xs. xs ++ keys_from keys (w + 1 + m) n) (sym (keys_first keys w m)) ∙ ap (λ v. keys_from keys w (suc m) ++ keys_from keys v n) (omega arith)

-- the keys below a number that all are below
pub keys_below : (keys : List ℕ) (end : ℕ) → end ≤ 65536 → ((code : ℕ) → code < 65536 → end ≤ code → has keys code ≡ false) → keys_from keys 0 end ≡ keys_wire keys
keys_below keys end within none =
    sym (append-nil (keys_from keys 0 end)) ∙ ap (λ xs. keys_from keys 0 end ++ xs) (sym (keys_none_from keys (0 + end) (65536 - end) (λ code l m. none code (omega (arith, m, within)) (omega (arith, l)))))
    ∙ sym (keys_split keys 0 end (65536 - end)) ∙ ap (keys_from keys 0) (omega (arith, within))

pub keys_lack : (keys old now : List ℕ) (fits k : ℕ) → now ≡ old ++ keys_from keys 0 k → k < 65536 → fits < length now + length (cond (has keys k) (to_be_bytes w16 k) [])
    → (octets : List ℕ) → octets ≡ keys_wire keys → fits < length old + length octets
keys_lack keys old now fits k e small lacks octets is =
    let all : keys_wire keys ≡ keys_from keys 0 (k + 1) ++ keys_from keys (0 + (k + 1)) (65536 - (k + 1)) = ap (keys_from keys 0) (omega arith) ∙ keys_split keys 0 (k + 1) (65536 - (k + 1)) in
    let here : keys_from keys 0 (k + 1) ≡ keys_from keys 0 k ++ cond (has keys k) (to_be_bytes w16 k) [] =
    last_of keys 0 k ∙ ap (λ v. keys_from keys 0 k ++ cond (has keys v) (to_be_bytes w16 v) []) (omega arith) in
    omega (
      arith,
      lacks,
      ap length e,
      length-append old (keys_from keys 0 k),
      ap length is,
      ap length all,
      length-append (keys_from keys 0 (k + 1)) (keys_from keys (0 + (k + 1)) (65536 - (k + 1))),
      ap length here,
      length-append (keys_from keys 0 k) (cond (has keys k) (to_be_bytes w16 k) []),
    )

same_wire : (a b : List ℕ) (w n : ℕ) → ((k : ℕ) → k < 65536 → has a k ≡ has b k) → w + n ≤ 65536 → keys_from a w n ≡ keys_from b w n
same_wire a b w zero h l = keys_zero a w ∙ sym (keys_zero b w)
same_wire a b w (suc n) h l =
    keys_first a w n ∙ ap (λ t. cond t (to_be_bytes w16 w) [] ++ keys_from a (w + 1) n) (h w (omega (arith, l)))
    ∙ ap (λ x. cond (has b w) (to_be_bytes w16 w) [] ++ x) (same_wire a b (w + 1) n h (omega (arith, l))) ∙ sym (keys_first b w n)

pub keys_once : SpellsOnce SpellsKeys
keys_once text a b h k = h.whole ∙ ap keys_wire (apart_once NamesAKey text h.keys k.keys a_key_once h.named k.named) ∙ sym k.whole

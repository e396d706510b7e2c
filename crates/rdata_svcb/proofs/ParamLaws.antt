-- Tokens spell parameters in one way, and what they spell are octets.
use Rattle.std.proofs.Common.{ℕ, zero, suc, ◌≡◌, ◌<◌, ◌+◌, ◌==◌, Bool, true, false, true≢false, cond, List, [], ◌∷◌, ◌++◌, length, refl, sym, subst, ap, ◌∙◌, arith, inl, inr, Option, Some, None}
use Rattle.std.specs.Prelude.{All}
use Rattle.std.specs.Int.{w16, to_be_bytes}
use Rattle.std.specs.List.{flat_map, AllByRecursion, AllZip}
use Rattle.std.proofs.lemmas.Bool.{cases_Bool}
use Rattle.std.proofs.lemmas.List.Elements.{All-nil, All-cons, All-append, All-head, All-tail, All-from_recursion}
use Rattle.rdata_fields.specs.WordLaws.{ipv4_is_word, ipv6_is_word}
use Rattle.rdata_svcb.specs.Params.{param, param_if, params_from, params_wire, value_at}
use Rattle.rdata_svcb.specs.Texts.{is_special, item_octet, item_text, later_text, list_text, wire_strings, IsItem}
use Rattle.rdata_svcb.proofs.Entries.{entries_none, entries_first}
use Rattle.rdata_tokens.specs.Spelling.{AreOctetValues}
use Rattle.rdata_tokens.proofs.FormLaws.{values_front, values_back, spelled_values}
use Rattle.dns_lexer.specs.EntryTokens.{TokenSeen}
use Rattle.rdata_svcb.specs.ParamSteps.{MayBeginParam}
use Rattle.rdata_svcb.specs.ParamTokens.{IsGluedText, SplitsParam, SplitsValue, SplitsWord, SpellsParam, SpellsFirstParam, SpellsFirstParams, SpellsParams}
use Rattle.rdata_svcb.specs.ParamValues.{SpellsValue, SpellsIpv4, SpellsIpv6, keys_from}
use Rattle.rdata_svcb.specs.declared.keys.ValueKind.{ValueKind}
use Rattle.rdata_svcb.specs.declared.keys.ValueKind.TheVariants.{Keys, Strings, Nothing, Port, Ipv4, Digits, Ipv6, Octets}
use Rattle.rdata_svcb.proofs.Fronts.{goes_on_apart, heads, param_once, split_once}
use Rattle.rdata_svcb.proofs.KeySets.{keys_first, keys_zero}
use Rattle.rdata_svcb.proofs.ListTexts.{special_octet, unspecial_octet}
use Rattle.rdata_svcb.proofs.Refusals.{first_mark}

-- ---- one way

glued : (mid rest : List TokenSeen) (q : TokenSeen) → MayBeginParam mid → mid ≡ q ∷ rest → IsGluedText q → ⊥
glued mid rest q apart e h = true≢false (sym h.1 ∙ (apart q rest e).1)

-- the tokens begin with one parameter
front_once : (tokens mid end : List TokenSeen) (p q : ℕ × List ℕ) → SpellsFirstParam tokens p mid → MayBeginParam mid → SpellsFirstParam tokens q end → MayBeginParam end → (p ≡ q) × (mid ≡ end)
front_once [] mid end p q h a k b = absurd h.split
front_once (t ∷ ts) mid end p q h a k b = by h.split.1 k.split.1
  where
    same : h.name ≡ k.name → h.value ≡ k.value → mid ≡ end → (p ≡ q) × (mid ≡ end)
    same n v e = (param_once k.name k.value p q (subst (λ u. SpellsParam k.name u p) v (subst (λ m. SpellsParam m h.value p) n h.spelled)) k.spelled, e)

    by : SplitsValue t ts h.name h.value mid → SplitsValue t ts k.name k.value end → (p ≡ q) × (mid ≡ end)
    by (inl x) (inl y) = let s = split_once t.text h.name h.value k.name k.value x.0 y.0 in same s.0 s.1 (x.1 ∙ sym y.1)
    by (inl x) (inr y) = absurd (glued mid end y.1.0 a (x.1 ∙ y.1.2) y.1.1)
    by (inr x) (inl y) = absurd (glued end mid x.1.0 b (y.1 ∙ x.1.2) x.1.1)
    by (inr x) (inr y) =
        let s = heads x.1.0 y.1.0 mid end (sym x.1.2 ∙ y.1.2) in
        same (first_mark 61 h.name k.name [] [] x.0.0 y.0.0 (sym x.0.1 ∙ y.0.1)).0 (x.1.3 ∙ ap (λ (q : TokenSeen). q.text) s.0 ∙ sym y.1.3) s.1

no_front : (tokens rest : List TokenSeen) (p : ℕ × List ℕ) → tokens ≡ [] → SpellsFirstParam tokens p rest → ⊥
no_front [] rest p e h = h.split
no_front (t ∷ ts) rest p e h = cc e

params_same : (tokens : List TokenSeen) (ps qs : List (ℕ × List ℕ)) → SpellsFirstParams tokens ps [] → SpellsFirstParams tokens qs [] → ps ≡ qs
params_same tokens [] [] h k = refl
params_same tokens [] (q ∷ qs) h k = absurd (no_front tokens k.0 q h k.1)
params_same tokens (p ∷ ps) [] h k = absurd (no_front tokens h.0 p k h.1)
params_same tokens (p ∷ ps) (q ∷ qs) h k =
    let s = front_once tokens h.0 k.0 p q h.1 (goes_on_apart h.0 ps h.2) k.1 (goes_on_apart k.0 qs k.2) in
    let r = params_same k.0 ps qs (subst (λ ts. SpellsFirstParams ts ps []) s.1 h.2) k.2 in
    ap (λ z. z ∷ ps) s.0 ∙ ap (λ zs. q ∷ zs) r

-- tokens spell parameters in one way
pub all_params_once : (tokens : List TokenSeen) (a b : List ℕ) → SpellsParams tokens a → SpellsParams tokens b → a ≡ b
all_params_once tokens a b h k = h.whole ∙ ap params_wire (params_same tokens h.params k.params h.spelled k.spelled) ∙ sym k.whole

-- ---- octets

abbrev IsOctet : ℕ → Type 0
IsOctet o = o < 256

both_values : (a b : List ℕ) → AreOctetValues a → AreOctetValues b → AreOctetValues (a ++ b)
both_values a b h k = All-append IsOctet a b h k

key_values : (key : ℕ) → AreOctetValues (to_be_bytes w16 key)
key_values key = All-from_recursion IsOctet (to_be_bytes w16 key) (omega arith, (omega arith, tt))

key_if : (b : Bool) (key : ℕ) → AreOctetValues (cond b (to_be_bytes w16 key) [])
key_if true key = key_values key
key_if false key = All-nil IsOctet

keys_values : (keys : List ℕ) (w n : ℕ) → AreOctetValues (keys_from keys w n)
keys_values keys w zero = subst AreOctetValues (sym (keys_zero keys w)) (All-nil IsOctet)
keys_values keys w (suc n) = subst AreOctetValues (sym (keys_first keys w n)) (both_values _ (keys_from keys (w + 1) n) (key_if _ w) (keys_values keys (w + 1) n))

octet_value : (o : ℕ) → AreOctetValues (item_octet o) → o < 256
octet_value o h = elim (cases_Bool (is_special o)) [
  | inl s ↦ All-head IsOctet o [] (All-tail IsOctet 92 (o ∷ []) (subst AreOctetValues (special_octet o s) h))
  | inr s ↦ All-head IsOctet o [] (subst AreOctetValues (unspecial_octet o s) h)
]

item_values : (item : List ℕ) → AreOctetValues (item_text item) → AreOctetValues item
item_values [] h = All-nil IsOctet
item_values (o ∷ os) h =
    All-cons IsOctet o os (octet_value o (values_front (item_octet o) (item_text os) h)) (item_values os (values_back (item_octet o) (item_text os) h))

string_values : (item : List ℕ) → IsItem item → AreOctetValues (item_text item) → AreOctetValues (length item ∷ item)
string_values item is h = All-cons IsOctet (length item) item is.1 (item_values item h)

later_values : (items : List (List ℕ)) → All IsItem items → AreOctetValues (later_text items) → AreOctetValues (wire_strings items)
later_values [] each h = All-nil IsOctet
later_values (i ∷ is) each h =
    let own = All-tail IsOctet 44 (item_text i) (values_front (44 ∷ item_text i) (later_text is) h) in
    both_values (length i ∷ i) (wire_strings is) (string_values i (All-head IsItem i is each) own) (later_values is (All-tail IsItem i is each) (values_back (44 ∷ item_text i) (later_text is) h))

list_values : (items : List (List ℕ)) → All IsItem items → AreOctetValues (list_text items) → AreOctetValues (wire_strings items)
list_values [] each h = All-nil IsOctet
list_values (i ∷ is) each h =
    both_values (length i ∷ i) (wire_strings is) (string_values i (All-head IsItem i is each) (values_front (item_text i) (later_text is) h))
    (later_values is (All-tail IsItem i is each) (values_back (item_text i) (later_text is) h))

-- words whose values are octets
each_values : (spells : List ℕ → List ℕ → Type 0) → ((text octets : List ℕ) → spells text octets → AreOctetValues octets) → (texts values : List (List ℕ)) → AllZip spells texts values → AreOctetValues (flat_map (λ v. v) values)
each_values spells one [] [] h = All-nil IsOctet
each_values spells one [] (v ∷ vs) h = absurd h
each_values spells one (t ∷ ts) [] h = absurd h
each_values spells one (t ∷ ts) (v ∷ vs) h = both_values v (flat_map (λ v. v) vs) (one t v h.0) (each_values spells one ts vs h.1)

ipv4_values : (text octets : List ℕ) → SpellsIpv4 text octets → AreOctetValues octets
ipv4_values text octets h = subst AreOctetValues (sym h.3) (ipv4_is_word.sized h.0 h.1).1

ipv6_values : (text octets : List ℕ) → SpellsIpv6 text octets → AreOctetValues octets
ipv6_values text octets h = subst AreOctetValues (sym h.3) (ipv6_is_word.sized h.0 h.1).1

-- what octets of text spell are octets
value_values : (kind : ValueKind) (text octets : List ℕ) → AreOctetValues text → SpellsValue kind text octets → AreOctetValues octets
value_values Keys text octets h k = subst AreOctetValues (sym k.whole) (keys_values k.keys 0 65536)
value_values Strings text octets h k =
    subst AreOctetValues (sym k.whole) (list_values k.items k.is_list.each (subst AreOctetValues (sym k.listed) (spelled_values text k.list [] h k.spelled)))
value_values Nothing text octets h k = subst AreOctetValues (sym k.1) (All-nil IsOctet)
value_values Port text octets h k = subst AreOctetValues (sym k.3) (key_values k.0)
value_values Ipv4 text octets h k = subst AreOctetValues (sym k.whole) (each_values SpellsIpv4 ipv4_values k.spelled.texts k.values k.spelled.each)
value_values Digits text octets h k = k.bytes
value_values Ipv6 text octets h k = subst AreOctetValues (sym k.whole) (each_values SpellsIpv6 ipv6_values k.spelled.texts k.values k.spelled.each)
value_values Octets text octets h k = spelled_values text octets [] h k

-- what tokens hold are octets
abbrev HoldValues : List TokenSeen → Type 0
HoldValues tokens = AllByRecursion (λ t. AreOctetValues t.text) tokens

word_values : (word name value : List ℕ) → AreOctetValues word → SplitsWord word name value → AreOctetValues value
word_values word name value h (x, inl k) = subst AreOctetValues (sym k.1) (All-nil IsOctet)
word_values word name value h (x, inr k) = All-tail IsOctet 61 value (values_back name (61 ∷ value) (subst AreOctetValues k h))

split_values : (tokens rest : List TokenSeen) (name value : List ℕ) → HoldValues tokens → SplitsParam tokens name value rest → AreOctetValues value × HoldValues rest
split_values [] rest name value h k = absurd k
split_values (t ∷ ts) rest name value h k = by k.1
  where
    by : SplitsValue t ts name value rest → AreOctetValues value × HoldValues rest
    by (inl x) = (word_values t.text name value h.0 x.0, subst HoldValues (sym x.1) h.1)
    by (inr x) = let more : HoldValues (x.1.0 ∷ rest) = subst HoldValues x.1.2 h.1 in (subst AreOctetValues (sym x.1.3) more.0, more.1)

params_hold : (tokens : List TokenSeen) (ps : List (ℕ × List ℕ)) → HoldValues tokens → SpellsFirstParams tokens ps [] → All (λ p. AreOctetValues p.1) ps
params_hold tokens [] h k = All-nil (λ p. AreOctetValues p.1)
params_hold tokens (p ∷ ps) h k =
    let s = split_values tokens k.0 k.1.name k.1.value h k.1.split in
    All-cons (λ p. AreOctetValues p.1) p ps (value_values k.1.spelled.0 k.1.value p.1 s.0 k.1.spelled.2) (params_hold k.0 ps s.1 k.2)

param_values : (key : ℕ) (value : List ℕ) → AreOctetValues value → AreOctetValues (param key value)
unfolding param
param_values key value h = both_values (to_be_bytes w16 key) (to_be_bytes w16 (length value) ++ value) (key_values key) (both_values (to_be_bytes w16 (length value)) value (key_values (length value)) h)

if_values : (key : ℕ) (o : Option (List ℕ)) → ((v : List ℕ) → o ≡ Some v → AreOctetValues v) → AreOctetValues (param_if key o)
if_values key None h = All-nil IsOctet
if_values key (Some v) h = param_values key v (h v refl)

from_values : (f : ℕ → Option (List ℕ)) → ((key : ℕ) (v : List ℕ) → f key ≡ Some v → AreOctetValues v) → (w n : ℕ) → AreOctetValues (params_from f w n)
from_values f h w zero = subst AreOctetValues (sym (entries_none f w)) (All-nil IsOctet)
from_values f h w (suc n) = subst AreOctetValues (sym (entries_first f w n)) (both_values (param_if w (f w)) (params_from f (w + 1) n) (if_values w (f w) (h w)) (from_values f h (w + 1) n))

at_by : (p : ℕ × List ℕ) (later : Option (List ℕ)) (v : List ℕ) (b : Bool) → AreOctetValues p.1 → (later ≡ Some v → AreOctetValues v) → cond b (Some p.1) later ≡ Some v → AreOctetValues v
at_by p later v true h more e = let same : p.1 ≡ v = cc e in subst AreOctetValues same h
at_by p later v false h more e = more e

value_held : (ps : List (ℕ × List ℕ)) (key : ℕ) (v : List ℕ) → All (λ p. AreOctetValues p.1) ps → value_at ps key ≡ Some v → AreOctetValues v
value_held [] key v h e = cc e
value_held (p ∷ ps) key v h e = at_by p (value_at ps key) v (p.0 == key) (All-head (λ p. AreOctetValues p.1) p ps h) (value_held ps key v (All-tail (λ p. AreOctetValues p.1) p ps h)) e

pub params_values : (tokens : List TokenSeen) (octets : List ℕ) → HoldValues tokens → SpellsParams tokens octets → AreOctetValues octets
params_values tokens octets h k =
    subst AreOctetValues (sym k.whole) (from_values (value_at k.params) (λ key v e. value_held k.params key v (params_hold tokens k.params h k.spelled) e) 0 65536)

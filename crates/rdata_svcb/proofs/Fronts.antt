-- Tokens begin with one parameter only.
use Rattle.std.proofs.Common.{ℕ, suc, ◌≡◌, ◌≢◌, ◌<◌, true≢false, List, [], ◌∷◌, ◌++◌, length, refl, sym, subst, ap, ◌∙◌, arith, inl, inr, Option, Some, None}
use Rattle.dns_codec.specs.Base.{base64}
use Rattle.std.specs.Int.{w16, to_be_bytes}
use Rattle.std.specs.Net.Addr.{ipv4_octets, ipv6_octets, IsIpv4Addr, IsIpv6Addr}
use Rattle.std.specs.Net.Grammar.{IsIpv4Text, IsIpv6Text}
use Rattle.rdata_values.specs.declared.addresses.Ipv6Shown.{Ipv6Shown}
use Rattle.rdata_tokens.proofs.Spelling.{spells_once}
use Rattle.rdata_fields.specs.Words.{SpellsBelow}
use Rattle.rdata_fields.specs.WordLaws.{number16_is_kind, ipv4_is_word, ipv6_is_word}
use Rattle.rdata_svcb.specs.Texts.{wire_strings}
use Rattle.rdata_svcb.proofs.WireItems.{one_list_text}
use Rattle.rdata_tokens.proofs.Spellings.{spelled_once}
use Rattle.dns_lexer.specs.EntryTokens.{TokenSeen}
use Rattle.rdata_svcb.specs.Items.{IsWithout}
use Rattle.rdata_svcb.specs.Keys.{NamesKey}
use Rattle.std.specs.Prelude.{MatchOption}
use Rattle.rdata_svcb.specs.ParamRefusals.{NamesNoKey}
use Rattle.rdata_svcb.specs.ParamSteps.{MayBeginParam, BeginsWithOneParam}
use Rattle.rdata_svcb.specs.ParamTokens.{SplitsWord, IsClosedWord, IsOpenWord, IsSeparateWord, IsValueAfterWord, SplitsValue, SpellsParam, SpellsFirstParams}
use Rattle.rdata_svcb.specs.ParamValues.{SpellsValue, SpellsStrings, SpellsIpv4, SpellsIpv6}
use Rattle.rdata_svcb.specs.declared.keys.ValueKind.{ValueKind}
use Rattle.rdata_svcb.specs.declared.keys.ValueKind.TheVariants.{Keys, Strings, Nothing, Port, Ipv4, Digits, Ipv6, Octets}
use Rattle.rdata_svcb.proofs.KeyRefusals.{key_once, keys_once}
use Rattle.rdata_svcb.proofs.Refusals.{SpellsOnce, first_mark, once_as, values_once}

strings_once : SpellsOnce SpellsStrings
strings_once text a b h k = h.whole ∙ ap wire_strings (one_list_text h.items k.items h.is_list k.is_list (h.listed ∙ spelled_once text h.list k.list h.spelled k.spelled ∙ sym k.listed)) ∙ sym k.whole

pub ipv4_once : SpellsOnce SpellsIpv4
ipv4_once = once_as IsIpv4Addr IsIpv4Text ipv4_octets ipv4_is_word.once

pub ipv6_once : SpellsOnce SpellsIpv6
ipv6_once = once_as (λ (a : Ipv6Shown). IsIpv6Addr a.0) (λ text a. IsIpv6Text text a.0) (λ a. ipv6_octets a.0) ipv6_is_word.once

-- a text spells one value of its kind
pub value_once : (kind : ValueKind) → SpellsOnce (SpellsValue kind)
value_once Keys text a b h k = keys_once text a b h k
value_once Strings text a b h k = strings_once text a b h k
value_once Nothing text a b h k = h.1 ∙ sym k.1
value_once Port text a b h k = once_as (λ n. n < 65536) (SpellsBelow 65536) (to_be_bytes w16) number16_is_kind.once text a b h k
value_once Ipv4 text a b h k = values_once SpellsIpv4 ipv4_once text a b h k
value_once Digits text a b h k = spells_once base64 (inr (inr refl)) text a b h k
value_once Ipv6 text a b h k = values_once SpellsIpv6 ipv6_once text a b h k
value_once Octets text a b h k = spelled_once text a b h k

pub param_once : (name value : List ℕ) (p q : ℕ × List ℕ) → SpellsParam name value p → SpellsParam name value q → p ≡ q
param_once name value p q h k =
    let same = key_once name p.0 q.0 h.0 k.0 h.1 k.1 in
    let octets : p.1 ≡ q.1 = value_once h.0 value p.1 q.1 h.2 (subst (λ kind. SpellsValue kind value q.1) (sym same.1) k.2) in
    ap (λ key. (key, p.1)) same.0 ∙ ap (λ v. (q.0, v)) octets

no_mark : (m u : List ℕ) → IsWithout 61 (m ++ 61 ∷ u) → ⊥
no_mark [] u h = h 0 (omega arith) refl
no_mark (x ∷ m) u h = no_mark m u (λ k l. h (suc k) (omega (arith, l)))

-- a word is a key and a value in one way
pub split_once : (w n v m u : List ℕ) → SplitsWord w n v → SplitsWord w m u → (n ≡ m) × (v ≡ u)
split_once w n v m u (x, inl a) (y, inl b) = (sym a.0 ∙ b.0, a.1 ∙ sym b.1)
split_once w n v m u (x, inl a) (y, inr b) = absurd (no_mark m u (subst (IsWithout 61) (sym a.0 ∙ b) x))
split_once w n v m u (x, inr a) (y, inl b) = absurd (no_mark n v (subst (IsWithout 61) (sym b.0 ∙ a) y))
split_once w n v m u (x, inr a) (y, inr b) = first_mark 61 n m v u x y (sym a ∙ b)

-- if a word's name does not name a key, it names none
pub names_no_key : (w before : List ℕ) (behind : Option (List ℕ)) → IsWithout 61 before → MatchOption behind (w ≡ before) (λ b. w ≡ before ++ 61 ∷ b)
    → ((code : ℕ) (kind : ValueKind) → NamesKey before code kind → ⊥) → NamesNoKey w
names_no_key w before None without e none name value split key kind named = none key kind (subst (λ n. NamesKey n key kind) (split_once w name value before [] split (without, inl (e, refl))).0 named)
names_no_key w before (Some b) without e none name value split key kind named = none key kind (subst (λ n. NamesKey n key kind) (split_once w name value before b split (without, inr e)).0 named)

-- a word that has a value, or no equals sign, is not open
pub alone_closed : (w n : List ℕ) → IsWithout 61 n → w ≡ n → IsClosedWord w
alone_closed w n h e m o = no_mark m [] (subst (IsWithout 61) (sym e ∙ o.1) h)

pub valued_closed : (w n v : List ℕ) → IsWithout 61 n → w ≡ n ++ 61 ∷ v → length v ≢ 0 → IsClosedWord w
valued_closed w n v h e some m o = some (ap length (first_mark 61 n m v [] h o.0 (sym e ∙ o.1)).1)

module _ (t : TokenSeen) (rest : List TokenSeen) where
  -- after a word that is not open
  pub closed_once : (name value m u : List ℕ) (mid : List TokenSeen) → SplitsWord t.text name value → IsClosedWord t.text → SplitsValue t rest m u mid → (m ≡ name) × (u ≡ value) × (mid ≡ rest)
  closed_once name value m u mid h closed (inl k) = let same = split_once t.text name value m u h k.0 in (sym same.0, sym same.1, k.1)
  closed_once name value m u mid h closed (inr k) = absurd (closed m k.0)

  -- after an open word
  pub open_once : (name m u : List ℕ) (mid : List TokenSeen) → IsOpenWord t.text name → SplitsValue t rest m u mid → MayBeginParam mid → (m ≡ name) × IsValueAfterWord rest u mid
  open_once name m u mid o (inl k) apart =
      let same = split_once t.text name [] m u (o.0, inr o.1) k.0 in
      (sym same.0, inl (sym same.1, k.1, λ q more e glued. true≢false (sym glued.1 ∙ (apart q more (k.1 ∙ e)).1)))
  open_once name m u mid o (inr k) apart = (sym (first_mark 61 name m [] [] o.0 k.0.0 (sym o.1 ∙ k.0.1)).0, inr k.1)

pub heads : (a b : TokenSeen) (xs ys : List TokenSeen) → a ∷ xs ≡ b ∷ ys → (a ≡ b) × (xs ≡ ys)
heads a b xs ys e = (cc, cc)

pub behind_once : (rest : List TokenSeen) (v u : List ℕ) (left mid : List TokenSeen) → IsValueAfterWord rest v left → IsValueAfterWord rest u mid → (u ≡ v) × (mid ≡ left)
behind_once rest v u left mid (inl h) (inl k) = (k.0 ∙ sym h.0, k.1 ∙ sym h.1)
behind_once rest v u left mid (inl h) (inr k) = absurd (h.2 k.0 mid k.2 k.1)
behind_once rest v u left mid (inr h) (inl k) = absurd (k.2 h.0 left h.2 h.1)
behind_once rest v u left mid (inr h) (inr k) = let same = heads k.0 h.0 mid left (sym k.2 ∙ h.2) in (k.3 ∙ ap (λ (q : TokenSeen). q.text) same.0 ∙ sym h.3, same.1)

-- parameters continue if no token is adjacent to the one before it
pub goes_on_apart : (tokens : List TokenSeen) (params : List (ℕ × List ℕ)) → SpellsFirstParams tokens params [] → MayBeginParam tokens
goes_on_apart tokens [] h t more e = absurd (let none : t ∷ more ≡ [] = sym e ∙ h in cc)
goes_on_apart [] (p ∷ params) h t more e = absurd cc
goes_on_apart (u ∷ tokens) (p ∷ params) h t more e = subst IsSeparateWord (heads u t tokens more e).0 h.1.split.0

-- the parameters of all tokens begin with the first
pub front_goes_on : (tokens left : List TokenSeen) (p : ℕ × List ℕ) (all : List (ℕ × List ℕ)) → tokens ≢ [] → BeginsWithOneParam tokens p left → SpellsFirstParams tokens all []
    → (more : List (ℕ × List ℕ)) × (all ≡ p ∷ more) × SpellsFirstParams left more []
front_goes_on tokens left p [] some only h = absurd (some h)
front_goes_on tokens left p (q ∷ all) some only h =
    let same = only q h.0 h.1 (goes_on_apart h.0 all h.2) in
    (all, ap (λ z. z ∷ all) same.0, subst (λ ts. SpellsFirstParams ts all []) same.1 h.2)

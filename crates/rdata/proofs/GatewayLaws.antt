-- Gateways, as words and as octets.
use Rattle.std.proofs.Common.{ℕ, false, ◌≡◌, ◌≢◌, ◌<◌, ◌≤◌, ◌+◌, ◌-◌, ◌*◌, ◌^◌, Option, Some, None, List, [], ◌∷◌, ◌++◌, length, take, drop, refl, sym, ap, subst, ◌∙◌, inl, inr, arith, length-append, take_at, take-append-drop, length-take-le, length-drop}
use Rattle.std.specs.Prelude.{Result, Ok, Err, slice_index}
use Rattle.std.proofs.lemmas.List.Elements.{All-tail}
use Rattle.rdata_tokens.proofs.Pieces.{rest_of}
use Rattle.std.specs.Net.Addr.{ipv6_segments}
use Rattle.std.specs.declared.net.Ipv4Addr.{Ipv4Addr}
use Rattle.std.specs.declared.net.Ipv6Addr.{Ipv6Addr}
use Rattle.dns_octets.specs.Room.{Room}
use Rattle.dns_octets.specs.Appending.{Gains, ExceedsRoom}
use Rattle.rdata_tokens.specs.declared.kind.DigitsKind.TheVariants.{Base64 as InBase64}
use Rattle.rdata_fields.specs.Parsing.{BeginsField, SpellsField}
use Rattle.rdata_fields.specs.declared.field.Field.TheVariants.{Number8 as OfNumber8, Name as OfName}
use Rattle.rdata_fields.proofs.Refused.{field_once}
use Rattle.rdata_fields.proofs.FormLaws.{fields_begun}
use Rattle.rdata_values.specs.Numbers.{SpellsNumber}
use Rattle.rdata_tails.specs.Gateways.{IsGateway, gateway_type, gateway_octets, SpellsGateway, BeginsWithGateway}
use Rattle.rdata_tails.specs.declared.gateway.Gateway.{Gateway}
use Rattle.rdata_tails.specs.declared.gateway.Gateway.TheVariants.{Nothing, Ipv4, Ipv6}
use Rattle.rdata_tails.proofs.GatewayLaws.{gateways_are_read}
use Rattle.rdata_tails.proofs.ItemLemmas.{length_octets_of}
use Rattle.rdata_tokens.specs.Forms.{FindsWidth}
use Rattle.rdata_tokens.specs.Spelling.{AreOctetValues}
use Rattle.rdata_tokens.proofs.FormLaws.{values_front, values_back}
use Rattle.rdata_tokens.proofs.NameFronts.{names_in_front}
use Rattle.dns_lexer.specs.EntryTokens.{TokenSeen}
use Rattle.rdata.specs.GatewayKeys.{octet_form, gateway_type_form, ReadsGatewayType, SpellsAddress, AddressReason, IsAddressOf, gateway_form, gateway_key_form, IsGatewayPart, key_form}
use Rattle.rdata.specs.Digits.{digits_form}
use Rattle.rdata.specs.Rests.{RestForm, RefusesAs, RefusesRest, ParsesTail, some_form}
use Rattle.rdata.specs.TokenForms.{FieldReason, ParsesTokenAs, then_form}
use Rattle.rdata_fields.specs.declared.record_error.RecordError.{RecordError}
use Rattle.rdata_values.specs.declared.error.ErrorKind.TheVariants.{UnknownGateway}
use Rattle.rdata.proofs.Joinings.{joined_once, digits_exceeded}
use Rattle.rdata.proofs.TokenRests.{SpelledOnce, BegunWithin, whole_within, as_other, then_once, then_exceeded, behind_taken}

-- ---- what is spelled is spelled once

pub octet_once : SpelledOnce octet_form.spells
octet_once t a b h k = field_once None OfNumber8 t a b h k

pub gateway_type_once : SpelledOnce gateway_type_form.spells
gateway_type_once t a b h k = octet_once t a b h.0 k.0

type_few : (g : Gateway) → gateway_type g ≤ 2
type_few Nothing = omega arith
type_few (Ipv4 a) = omega arith
type_few (Ipv6 a) = omega arith

-- a gateway of type 3 is a name
pub no_name : (number : ℕ) (g : Gateway) → number ≡ 3 → gateway_type g ≡ number → ⊥
no_name number g three is = let few = type_few g in omega (arith, three, is, few)

address_once : (number : ℕ) → SpelledOnce (SpellsAddress number)
address_once number t a b h k =
    let g : Gateway = h.1.0 in
    let same : g ≡ k.1.0 = gateways_are_read.once number t.text g k.1.0 h.1.1 k.1.1 in
    h.1.2 ∙ ap gateway_octets same ∙ sym k.1.2

pub gateway_once : (origin : Option (List (List ℕ))) (number : ℕ) → SpelledOnce (gateway_form origin number).spells
gateway_once origin number t a b (inl h) (inl k) = field_once origin OfName t a b h.1 k.1
gateway_once origin number t a b (inl h) (inr k) = absurd (no_name number k.1.0 h.0 k.1.1.1)
gateway_once origin number t a b (inr h) (inl k) = absurd (no_name number h.1.0 k.0 h.1.1.1)
gateway_once origin number t a b (inr h) (inr k) = address_once number t a b h k

-- a gateway and a key of an algorithm; and with the algorithm before them
abbrev pub behind_algorithm : Option (List (List ℕ)) → ℕ → ℕ → RestForm
behind_algorithm origin number algorithm = then_form (gateway_form origin number) (λ gateway. key_form algorithm)

abbrev pub behind_type : Option (List (List ℕ)) → ℕ → RestForm
behind_type origin number = then_form octet_form (λ algorithm. behind_algorithm origin number (slice_index algorithm 0))

key_once : (algorithm : ℕ) (tokens : List TokenSeen) (a b : List ℕ) → (key_form algorithm).spells tokens a → (key_form algorithm).spells tokens b → a ≡ b
key_once algorithm tokens a b h k = joined_once InBase64 tokens a b h.0 k.0

algorithm_once : (origin : Option (List (List ℕ))) (number algorithm : ℕ) (tokens : List TokenSeen) (a b : List ℕ) → (behind_algorithm origin number algorithm).spells tokens a → (behind_algorithm origin number algorithm).spells tokens b → a ≡ b
algorithm_once origin number algorithm tokens a b h k = then_once (gateway_form origin number) (λ gateway. key_form algorithm) (gateway_once origin number) (λ front ts. key_once algorithm ts) tokens a b h k

type_once : (origin : Option (List (List ℕ))) (number : ℕ) (tokens : List TokenSeen) (a b : List ℕ) → (behind_type origin number).spells tokens a → (behind_type origin number).spells tokens b → a ≡ b
type_once origin number tokens a b h k =
    then_once octet_form (λ algorithm. behind_algorithm origin number (slice_index algorithm 0)) octet_once (λ front ts. algorithm_once origin number (slice_index front 0) ts) tokens a b h k

pub gateway_key_once : (origin : Option (List (List ℕ))) (tokens : List TokenSeen) (a b : List ℕ) → (gateway_key_form origin).spells tokens a → (gateway_key_form origin).spells tokens b → a ≡ b
gateway_key_once origin tokens a b h k =
    then_once gateway_type_form (λ number. behind_type origin (slice_index number 0)) gateway_type_once (λ front ts. type_once origin (slice_index front 0) ts) tokens a b h k

-- ---- what begins to exceed the room exceeds it

-- a beginning of a gateway is not longer
gateway_within : (origin : Option (List (List ℕ))) (number : ℕ) → BegunWithin (gateway_form origin number).begins (gateway_form origin number).spells
gateway_within origin number t front octets (inl h) (inl k) = fields_begun origin OfName t.is_quoted t.text front octets h.1 k.1
gateway_within origin number t front octets (inl h) (inr k) = absurd (no_name number k.1.0 h.0 k.1.1.1)
gateway_within origin number t front octets (inr h) (inl k) = absurd (no_name number h.1.0 k.0 h.1.1.1)
gateway_within origin number t front octets (inr h) (inr k) = whole_within (SpellsAddress number) (address_once number) t front octets h k

module _ (origin : Option (List (List ℕ))) (room : Room) (left : List TokenSeen) where
  behind_exceeded : (number algorithm : ℕ) (tokens : List TokenSeen) (old octets : List ℕ) → (behind_algorithm origin number algorithm).exceeds room tokens left old → (behind_algorithm origin number algorithm).spells tokens octets
      → room.fits < length old + length octets
  behind_exceeded number algorithm tokens old octets h sp =
      then_exceeded (gateway_form origin number) (λ gateway. key_form algorithm) room left old octets (gateway_once origin number) (gateway_within origin number)
      (λ front ts o back e k. digits_exceeded InBase64 room ts left o back e k.0) tokens h sp

  type_exceeded : (number : ℕ) (tokens : List TokenSeen) (old octets : List ℕ) → (behind_type origin number).exceeds room tokens left old → (behind_type origin number).spells tokens octets → room.fits < length old + length octets
  type_exceeded number tokens old octets h sp =
      then_exceeded octet_form (λ algorithm. behind_algorithm origin number (slice_index algorithm 0)) room left old octets octet_once (whole_within octet_form.spells octet_once)
      (λ front ts o back e k. behind_exceeded number (slice_index front 0) ts o back e k) tokens h sp

  pub gateway_key_exceeded : (tokens : List TokenSeen) (old octets : List ℕ) → (gateway_key_form origin).exceeds room tokens left old → (gateway_key_form origin).spells tokens octets → room.fits < length old + length octets
  gateway_key_exceeded tokens old octets h sp =
      then_exceeded gateway_type_form (λ number. behind_type origin (slice_index number 0)) room left old octets gateway_type_once (whole_within gateway_type_form.spells gateway_type_once)
      (λ front ts o back e k. type_exceeded (slice_index front 0) ts o back e k) tokens h sp

-- ---- the type

type_spelled : (t : TokenSeen) (number : ℕ) → t.is_quoted ≡ false → SpellsNumber t.text number → number < 2 ^ 8 → octet_form.spells t (number ∷ [])
type_spelled t number plain written small = (plain, (number, small, (written, small), refl))

pub type_above : (t : TokenSeen) (number : ℕ) → t.is_quoted ≡ false → SpellsNumber t.text number × (number < 2 ^ 8) → 3 < number → ReadsGatewayType t (Err UnknownGateway)
type_above t number plain h more =
    let own : octet_form.spells t (number ∷ []) = type_spelled t number plain h.0 h.1 in (
      inr (refl, (number ∷ [], own, more)),
      λ octets sp. (let same : slice_index octets 0 ≡ number = ap (λ o. slice_index o 0) (octet_once t octets (number ∷ []) sp.0 own) in omega (arith, sp.1, same, more)),
    )

-- ---- an address

pub address_exceeds : (room : Room) (number : ℕ) (t : TokenSeen) (old : List ℕ) (g : Gateway) → t.is_quoted ≡ false → SpellsGateway number t.text g → (length (gateway_octets g) ≤ room.fits - length old → ⊥) → ExceedsRoom room (SpellsAddress number t) old
address_exceeds room number t old g plain own few = (gateway_octets g, (plain, (g, own, refl)), omega (arith, few))

-- ---- the gateway of a type

module _ (origin : Option (List (List ℕ))) (number : ℕ) (room : Room) (end : ℕ) (tokens : List TokenSeen) (old : List ℕ) (r : Result (Unit {0}) RecordError) (left : List TokenSeen) (new : List ℕ) where
  pub name_taken : number ≡ 3 → ParsesTokenAs room (BeginsField origin OfName) (SpellsField origin OfName) (FieldReason origin OfName) end tokens old r left new
      → ParsesTokenAs room (gateway_form origin number).begins (gateway_form origin number).spells (gateway_form origin number).reason end tokens old r left new
  name_taken three h =
      as_other (BeginsField origin OfName) (gateway_form origin number).begins (SpellsField origin OfName) (gateway_form origin number).spells (FieldReason origin OfName) (gateway_form origin number).reason room end tokens old r left new
      (λ t octets sp. inl (three, sp)) (λ t octets sp. inl (three, sp)) name (λ t e why. inl (three, why)) h
    where
      name : (t : TokenSeen) (octets : List ℕ) → (gateway_form origin number).spells t octets → SpellsField origin OfName t octets
      name t octets (inl sp) = sp.1
      name t octets (inr sp) = absurd (no_name number sp.1.0 three sp.1.1.1)

  pub address_taken : number ≢ 3 → ParsesTokenAs room (SpellsAddress number) (SpellsAddress number) AddressReason end tokens old r left new
      → ParsesTokenAs room (gateway_form origin number).begins (gateway_form origin number).spells (gateway_form origin number).reason end tokens old r left new
  address_taken other h =
      as_other (SpellsAddress number) (gateway_form origin number).begins (SpellsAddress number) (gateway_form origin number).spells AddressReason (gateway_form origin number).reason room end tokens old r left new
      (λ t octets sp. inr sp) (λ t octets sp. inr sp) address (λ t e why. inr (other, why)) h
    where
      address : (t : TokenSeen) (octets : List ℕ) → (gateway_form origin number).spells t octets → SpellsAddress number t octets
      address t octets (inl sp) = absurd (other sp.0)
      address t octets (inr sp) = sp

-- ---- what is parsed one after the other

module _ (origin : Option (List (List ℕ))) (number algorithm : ℕ) (room : Room) (end : ℕ) (tokens : List TokenSeen) (old : List ℕ) (begun : ℕ) (rest : List TokenSeen) (middle : List ℕ) (r : Result (Unit {0}) RecordError) (left : List TokenSeen) (new : List ℕ) where
  pub type_before : begun ≡ end → (t : TokenSeen) × (tokens ≡ t ∷ rest) × gateway_type_form.spells t (number ∷ []) × (middle ≡ old ++ number ∷ [])
      → ParsesTail room (behind_type origin number) begun rest middle r left new → ParsesTail room (gateway_key_form origin) end tokens old r left new
  type_before ends k h =
      behind_taken gateway_type_form (λ number. behind_type origin (slice_index number 0)) room end tokens old gateway_type_once k.0 rest (number ∷ []) middle k.1 k.2 k.3 begun r left new ends h

  pub algorithm_before : begun ≡ end → (t : TokenSeen) × (tokens ≡ t ∷ rest) × octet_form.spells t (algorithm ∷ []) × (middle ≡ old ++ algorithm ∷ [])
      → ParsesTail room (behind_algorithm origin number algorithm) begun rest middle r left new → ParsesTail room (behind_type origin number) end tokens old r left new
  algorithm_before ends k h =
      behind_taken octet_form (λ algorithm. behind_algorithm origin number (slice_index algorithm 0)) room end tokens old octet_once k.0 rest (algorithm ∷ []) middle k.1 k.2 k.3 begun r left new ends h

  pub gateway_before : begun ≡ end → (t : TokenSeen) × (tokens ≡ t ∷ rest) × Gains ((gateway_form origin number).spells t) old middle
      → ParsesTail room (key_form algorithm) begun rest middle r left new → ParsesTail room (behind_algorithm origin number algorithm) end tokens old r left new
  gateway_before ends k h = behind_taken (gateway_form origin number) (λ gateway. key_form algorithm) room end tokens old (gateway_once origin number) k.0 rest k.2.0 middle k.1 k.2.1 k.2.2 begun r left new ends h

-- ---- the part that is rejected

module _ (origin : Option (List (List ℕ))) where
  module _ (tokens left : List TokenSeen) (t : TokenSeen) (rest : List TokenSeen) (is : tokens ≡ t ∷ rest) (number : ℕ) (spelled : gateway_type_form.spells t (number ∷ [])) where
    pub algorithm_part : left ≡ rest → IsGatewayPart origin tokens left 1
    algorithm_part at = subst (λ ts. IsGatewayPart origin ts left 1) (sym is) (number ∷ [], spelled, at)

    module _ (u : TokenSeen) (more : List TokenSeen) (next : rest ≡ u ∷ more) (algorithm : ℕ) (named : octet_form.spells u (algorithm ∷ [])) where
      pub gateway_part : left ≡ more → IsGatewayPart origin tokens left 2
      gateway_part at = subst (λ ts. IsGatewayPart origin ts left 2) (sym (is ∙ ap (λ l. t ∷ l) next)) (number ∷ [], spelled, (algorithm ∷ [], named, at))

      pub key_part : (v : TokenSeen) (last : List TokenSeen) (octets : List ℕ) → more ≡ v ∷ last → (gateway_form origin number).spells v octets → IsGatewayPart origin tokens left 3
      key_part v last octets third gateway =
          subst (λ ts. IsGatewayPart origin ts left 3) (sym (is ∙ ap (λ l. t ∷ l) (next ∙ ap (λ l. u ∷ l) third))) (number ∷ [], spelled, (algorithm ∷ [], named, (octets, gateway, refl)))

-- ---- the algorithm, and the key

-- a number that was appended is the octet after those before it
pub octet_taken : (t : TokenSeen) (old new : List ℕ) → Gains (octet_form.spells t) old new → octet_form.spells t (slice_index new (length old) ∷ []) × (new ≡ old ++ slice_index new (length old) ∷ [])
octet_taken t old new g =
    let octets : List ℕ = g.0 in
    let number : ℕ = g.1.1.0 in
    let is : octets ≡ number ∷ [] = g.1.1.3 in
    let whole : new ≡ old ++ number ∷ [] = g.2 ∙ ap (λ o. old ++ o) is in
    let at : slice_index new (length old) ≡ number = ap (λ o. slice_index o (length old)) whole ∙ first_behind old number in (
      subst (octet_form.spells t) (is ∙ ap (λ n. n ∷ []) (sym at)) g.1,
      whole ∙ ap (λ n. old ++ n ∷ []) (sym at),
    )
  where
    first_behind : (old : List ℕ) (number : ℕ) → slice_index (old ++ number ∷ []) (length old) ≡ number
    first_behind [] number = refl
    first_behind (o ∷ os) number = first_behind os number

module _ (room : Room) (algorithm end : ℕ) (tokens : List TokenSeen) (old : List ℕ) where
  key_refused : (f : RestForm) (r : RecordError) (left : List TokenSeen) (new : List ℕ) → ((octets : List ℕ) → (key_form algorithm).spells tokens octets → f.spells tokens octets)
      → (f.exceeds room tokens left old → (key_form algorithm).exceeds room tokens left old) → (f.reason tokens left r.kind → (key_form algorithm).reason tokens left r.kind)
      → RefusesRest room f end tokens old r left new → RefusesRest room (key_form algorithm) end tokens old r left new
  key_refused f r left new from exceeds why h = record { at = h.at; why = by h.why; extends = h.extends }
    where
      by : RefusesAs room f tokens old left r.kind → RefusesAs room (key_form algorithm) tokens old left r.kind
      by (inl short) = inl (short.0, exceeds short.1)
      by (inr bad) = inr (why bad.0, λ octets sp. bad.1 octets (from octets sp))

  -- a key that may be omitted, and one that may not
  pub any_key : algorithm ≡ 0 → (r : Result (Unit {0}) RecordError) (left : List TokenSeen) (new : List ℕ) → ParsesTail room (digits_form InBase64) end tokens old r left new → ParsesTail room (key_form algorithm) end tokens old r left new
  any_key is (Ok x) left new h = (h.0, (h.1.0, (h.1.1, λ none. is), h.1.2))
  any_key is (Err r) left new h = key_refused (digits_form InBase64) r left new (λ octets sp. sp.0) (λ h. h) inl h

  pub own_key : algorithm ≢ 0 → (r : Result (Unit {0}) RecordError) (left : List TokenSeen) (new : List ℕ) → ParsesTail room (some_form (digits_form InBase64)) end tokens old r left new → ParsesTail room (key_form algorithm) end tokens old r left new
  own_key other (Ok x) left new h = (h.0, (h.1.0, (h.1.1.0, λ none. absurd (h.1.1.1 none)), h.1.2))
  own_key other (Err r) left new h = key_refused (some_form (digits_form InBase64)) r left new (λ octets sp. (sp.0, λ none. other (sp.1 none))) (λ h. h) why h
    where
      why : (some_form (digits_form InBase64)).reason tokens left r.kind → (key_form algorithm).reason tokens left r.kind
      why (inl bad) = inl bad
      why (inr none) = inr (none.0, none.1, other, none.2)

-- ---- in octets

pub no_address : (number : ℕ) (octets : List ℕ) → ((g : Gateway) → BeginsWithGateway number octets g → ⊥) → FindsWidth (IsAddressOf number) octets None
no_address number octets none form rest is split = none is.0 (is.1, is.2, rest, split ∙ ap (λ o. o ++ rest) is.3)

pub address_found : (number : ℕ) (octets : List ℕ) (g : Gateway) (n : ℕ) → BeginsWithGateway number octets g → length (gateway_octets g) ≡ n → FindsWidth (IsAddressOf number) octets (Some n)
address_found number octets g n h long =
    let sum = ap length h.3 ∙ length-append (gateway_octets g) h.2 in
    (omega (arith, long, sum), (g, h.0, h.1, ap (take n) h.3 ∙ take_at (gateway_octets g) h.2 n long))

pub four_octets : (a : Ipv4Addr) → IsGateway (Ipv4 a) → length (gateway_octets (Ipv4 a)) ≡ 4
four_octets a h = h.0

pub sixteen_octets : (a : Ipv6Addr) → IsGateway (Ipv6 a) → length (gateway_octets (Ipv6 a)) ≡ 16
sixteen_octets a h = length_octets_of (ipv6_segments a) ∙ ap (λ n. 2 * n) h.0

-- octets begin with one gateway of a type at most
pub gateway_width_is : (number : ℕ) (form rest : List ℕ) (found : Option ℕ) → (gateway_form None number).is_wire form → FindsWidth (gateway_form None number).is_wire (form ++ rest) found → found ≡ Some (length form)
gateway_width_is number form rest None is finds = absurd (finds form rest is refl)
gateway_width_is number form rest (Some w) (inl name) (within, inl found) = names_in_front.width form rest (Some w) name.1 (within, found.1)
gateway_width_is number form rest (Some w) (inl name) (within, inr found) = absurd (no_name number found.0 name.0 found.2)
gateway_width_is number form rest (Some w) (inr own) (within, inl found) = absurd (no_name number own.0 found.0 own.2)
gateway_width_is number form rest (Some w) (inr own) (within, inr found) =
    let octets : List ℕ = form ++ rest in
    let front : BeginsWithGateway number octets own.0 = (own.1, own.2, rest, ap (λ o. o ++ rest) own.3) in
    let other : BeginsWithGateway number octets found.0 = (found.1, found.2, drop w octets, sym (take-append-drop w octets) ∙ ap (λ o. o ++ drop w octets) found.3) in
    let same : found.0 ≡ own.0 = gateways_are_read.one_front number octets found.0 own.0 other front in
    let whole : take w octets ≡ form = found.3 ∙ ap gateway_octets same ∙ sym own.3 in
    ap Some (sym (length-take-le w octets within) ∙ ap length whole)

type_most : (number : ℕ) (octets : List ℕ) → (gateway_form None number).is_wire octets → number ≤ 3
type_most number octets (inl name) = omega (arith, name.0)
type_most number octets (inr own) = let few = type_few own.0 in omega (arith, own.2, few)

abbrev IsOctet : ℕ → Type 0
IsOctet o = o < 256

no_octets : (octets : List ℕ) → length octets ≡ 0 → octets ≡ []
no_octets [] none = refl
no_octets (o ∷ os) none = absurd (omega (arith, none))

-- octets are a gateway and a key, after two others
pub record IsKeyed (a b : ℕ) (octets : List ℕ) : Type 0 where
  pub gateway : List ℕ
  pub key : List ℕ
  pub split : octets ≡ gateway ++ key
  pub is_wire : (gateway_form None a).is_wire gateway
  pub some : key ≡ [] → b ≡ 0

pub one_octet : (front : List ℕ) → length front ≡ 1 → front ≡ slice_index front 0 ∷ []
one_octet [] h = absurd (omega (arith, h))
one_octet (o ∷ []) h = refl
one_octet (o ∷ p ∷ os) h = absurd (omega (arith, h))

-- the first octet
one_front : (a : ℕ) (octets front back : List ℕ) → length front ≡ 1 → a ∷ octets ≡ front ++ back → (slice_index front 0 ≡ a) × (back ≡ octets)
one_front a octets front back h is =
    let all : a ∷ octets ≡ slice_index front 0 ∷ back = is ∙ ap (λ o. o ++ back) (one_octet front h) in
    let head : slice_index front 0 ≡ a = cc all in
    let tail : back ≡ octets = cc all in
    (head, tail)

pub keyed : (a b : ℕ) (octets : List ℕ) → (gateway_key_form None).is_wire (a ∷ b ∷ octets) → IsKeyed a b octets
keyed a b octets h =
    let first = one_front a (b ∷ octets) h.front h.back h.is_wire.0.0 h.octets_are in
    let k = h.rest in
    let second = one_front b octets k.front k.back k.is_wire.0 (sym first.1 ∙ k.octets_are) in
    let l = k.rest in
    record {
      gateway = l.front;
      key = l.back;
      split = sym second.1 ∙ l.octets_are;
      is_wire = subst (λ n. (gateway_form None n).is_wire l.front) first.0 l.is_wire;
      some = λ none. sym second.0 ∙ l.rest.1 none;
    }

module _ (a b : ℕ) (octets : List ℕ) where
  pub no_key : FindsWidth (gateway_form None a).is_wire octets None → (gateway_key_form None).is_wire (a ∷ b ∷ octets) → ⊥
  no_key none h = let k = keyed a b octets h in none k.gateway k.key k.is_wire k.split

  pub key_behind : (w : ℕ) → FindsWidth (gateway_form None a).is_wire octets (Some w) → (gateway_key_form None).is_wire (a ∷ b ∷ octets) → length octets - w ≡ 0 → b ≡ 0
  key_behind w found h zero_long =
      let k = keyed a b octets h in
      let same : Some w ≡ Some (length k.gateway) = gateway_width_is a k.gateway k.key (Some w) k.is_wire (subst (λ o. FindsWidth (gateway_form None a).is_wire o (Some w)) k.split found) in
      let width : w ≡ length k.gateway = cc same in
      let sum = ap length k.split ∙ length-append k.gateway k.key in
      k.some (no_octets k.key (omega (arith, width, sum, zero_long)))

  pub is_key : (w : ℕ) → AreOctetValues (a ∷ b ∷ octets) → FindsWidth (gateway_form None a).is_wire octets (Some w) → (length octets - w ≡ 0 → b ≡ 0) → (gateway_key_form None).is_wire (a ∷ b ∷ octets)
  is_key w values found lacks =
      let whole : octets ≡ take w octets ++ drop w octets = sym (take-append-drop w octets) in
      let later : AreOctetValues octets = All-tail IsOctet b octets (All-tail IsOctet a (b ∷ octets) values) in
      let tail : AreOctetValues (drop w octets) = values_back (take w octets) (drop w octets) (subst AreOctetValues whole later) in
      let long : length (drop w octets) ≡ length octets - w = length-drop w octets in
      let some : drop w octets ≡ [] → b ≡ 0 = λ none. lacks (sym long ∙ ap length none) in
      record {
        front = a ∷ [];
        back = b ∷ octets;
        octets_are = refl;
        is_wire = ((refl, values_front (a ∷ []) (b ∷ octets) values), type_most a (take w octets) found.1);
        rest = record {
          front = b ∷ [];
          back = octets;
          octets_are = refl;
          is_wire = (refl, values_front (b ∷ []) octets (All-tail IsOctet a (b ∷ octets) values));
          rest = record { front = take w octets; back = drop w octets; octets_are = whole; is_wire = found.1; rest = (tail, some) };
        };
      }

-- the octets of a list of two or more
pub two_in_front : (octets : List ℕ) → 2 ≤ length octets → octets ≡ slice_index octets 0 ∷ slice_index octets 1 ∷ drop 2 octets
two_in_front [] h = absurd (omega (arith, h))
two_in_front (a ∷ []) h = absurd (omega (arith, h))
two_in_front (a ∷ b ∷ octets) h = refl

module _ (octets : List ℕ) (long : 2 ≤ length octets) where
  pub no_key_in : FindsWidth (gateway_form None (slice_index octets 0)).is_wire (take (length octets - 2) (drop 2 octets)) None → (gateway_key_form None).is_wire octets → ⊥
  no_key_in none h =
      no_key (slice_index octets 0) (slice_index octets 1) (drop 2 octets) (subst (λ o. FindsWidth (gateway_form None (slice_index octets 0)).is_wire o None) (rest_of 2 octets) none) (subst (gateway_key_form None).is_wire (two_in_front octets long) h)

  pub key_in : (w : ℕ) → AreOctetValues octets → FindsWidth (gateway_form None (slice_index octets 0)).is_wire (take (length octets - 2) (drop 2 octets)) (Some w)
      → ((length octets - 2 - w ≡ 0 → slice_index octets 1 ≡ 0) → (gateway_key_form None).is_wire octets) × ((gateway_key_form None).is_wire octets → length octets - 2 - w ≡ 0 → slice_index octets 1 ≡ 0)
  key_in w values cut =
      let whole = two_in_front octets long in
      let rest : List ℕ = drop 2 octets in
      let size : length rest ≡ length octets - 2 = length-drop 2 octets in
      let found : FindsWidth (gateway_form None (slice_index octets 0)).is_wire rest (Some w) = subst (λ o. FindsWidth (gateway_form None (slice_index octets 0)).is_wire o (Some w)) (rest_of 2 octets) cut in (
        λ lacks.
            subst (gateway_key_form None).is_wire (sym whole)
            (is_key (slice_index octets 0) (slice_index octets 1) rest w (subst AreOctetValues whole values) found (λ none. lacks (ap (λ n. n - w) (sym size) ∙ none))),
        λ h none. key_behind (slice_index octets 0) (slice_index octets 1) rest w found (subst (gateway_key_form None).is_wire whole h) (ap (λ n. n - w) size ∙ none),
      )

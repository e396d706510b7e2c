-- What items, and gateways with keys, print as spells them again.
use Rattle.std.proofs.lemmas.List.{take-append-drop, length-take-le, length-drop}
use Rattle.std.proofs.Common.{ℕ, zero, suc, true, false, ◌≡◌, ◌<◌, ◌≤◌, ◌+◌, ◌-◌, ◌%◌, Bool, Option, None, List, [], ◌∷◌, ◌++◌, length, take, drop, replicate, get_or, refl, sym, ap, subst, ◌∙◌, inl, inr, arith, length-append}
use Rattle.std.proofs.Math.Seq.{take-append_seam, drop-append_seam}
use Rattle.std.proofs.lemmas.Bool.Decides.{nat_tests}
use Rattle.std.specs.List.{AllByRecursion, concat}
use Rattle.std.specs.Prelude.{nat_le, slice_index}
use Rattle.std.specs.Net.Addr.{ipv4_octets, ipv6_octets, ipv6_segments, segments_of}
use Rattle.std.specs.declared.net.ip_addr.IpAddr.{IpAddr}
use Rattle.std.specs.declared.net.ip_addr.IpAddr.TheVariants.{V4, V6}
use Rattle.dns_codec.specs.Base.{base64}
use Rattle.rdata_fields.specs.Fields.{field_form}
use Rattle.rdata_fields.specs.Parsing.{SpellsField}
use Rattle.rdata_fields.specs.declared.field.Field.TheVariants.{Number8 as OfNumber8, Name as OfName}
use Rattle.rdata_fields.proofs.FormLaws.{fields_are_forms}
use Rattle.rdata_tails.specs.Gateways.{IsGateway, gateway_type, gateway_octets, gateway_text, SpellsGateway}
use Rattle.rdata_tails.specs.Prefixes.{IsAddress, IsAddressPart, IsPrefix, IsPrefixWire, SpellsPrefix, address_octets, exclusion_bit, family_of, prefix_text, BeginsWithItem, IsItemOf}
use Rattle.rdata_tails.specs.declared.apl.Prefix.{Prefix}
use Rattle.rdata_tails.specs.declared.gateway.Gateway.{Gateway}
use Rattle.rdata_tails.specs.declared.gateway.Gateway.TheVariants.{Nothing, Ipv4, Ipv6}
use Rattle.rdata_tails.proofs.GatewayLaws.{gateways_are_read}
use Rattle.rdata_tails.proofs.ItemLemmas.{address_length, few_octets}
use Rattle.rdata_tails.proofs.PrefixLaws.{prefixes_are_read, segments_back}
use Rattle.rdata_tokens.specs.NameSpelling.{IsOrigin, IsWireName}
use Rattle.rdata_tokens.specs.Spelling.{AreOctetValues}
use Rattle.dns_lexer.specs.EntryTokens.{TokenSeen}
use Rattle.rdata.specs.Digits.{SpellsJoined, printed_digits}
use Rattle.rdata.specs.GatewayKeys.{octet_form, gateway_type_form, labels_size, gateway_size, gateway_word, gateway_form, gateway_key_form, key_form}
use Rattle.rdata.specs.PrefixLists.{IsPrefixItem, with_zeros, family_address, item_prefix, item_size, prefix_form, prefixes_form}
use Rattle.rdata.specs.Rests.{RestForm, ArePrinted}
use Rattle.rdata.specs.TokenForms.{TokenForm, AreParts, SpellOctets, printed_each, SpellsThen, IsThen, then_form}
use Rattle.rdata.proofs.GatewayLaws.{behind_algorithm, behind_type, four_octets, sixteen_octets}

-- what octets print as spells them, and their number is the width
pub record IsBack (f : TokenForm) (Spells : TokenSeen → List ℕ → Type 0) : Type 0 where
  pub back : (octets : List ℕ) (t : TokenSeen) → f.is_wire octets → t.is_quoted ≡ (f.printed octets).is_quoted → t.text ≡ (f.printed octets).text → Spells t octets
  pub sized : (front more : List ℕ) → f.is_wire front → f.width (front ++ more) ≡ length front

-- ---- any number of tokens, and a token before others

module _ (f : TokenForm) (b : IsBack f f.spells) (some : f.is_wire [] → ⊥) where
  each_printed : (parts : List (List ℕ)) (count : ℕ) (tokens : List TokenSeen) → AllByRecursion f.is_wire parts → length (concat parts) ≤ count → ArePrinted (printed_each f count (concat parts)) tokens → SpellOctets f tokens (concat parts)
  each_printed [] zero [] h few p = refl
  each_printed [] (suc count) [] h few p = refl
  each_printed [] zero (t ∷ ts) h few p = absurd p
  each_printed [] (suc count) (t ∷ ts) h few p = absurd p
  each_printed ([] ∷ parts) count tokens h few p = absurd (some h.0)
  each_printed ((o ∷ os) ∷ parts) zero tokens h few p = absurd (omega (arith, few))
  each_printed ((o ∷ os) ∷ parts) (suc count) [] h few p = absurd p
  each_printed ((o ∷ os) ∷ parts) (suc count) (t ∷ ts) h few p =
      let part : List ℕ = o ∷ os in
      let more : List ℕ = concat parts in
      let width : f.width (part ++ more) ≡ length part = b.sized part more h.0 in
      let own : take (f.width (part ++ more)) (part ++ more) ≡ part = ap (λ n. take n (part ++ more)) width ∙ take-append_seam part more in
      let later : drop (f.width (part ++ more)) (part ++ more) ≡ more = ap (λ n. drop n (part ++ more)) width ∙ drop-append_seam part more in
      let few_more : length more ≤ count = omega (arith, few, length-append part more) in (
        part,
        more,
        refl,
        b.back part t h.0 (p.0 ∙ ap (λ o. (f.printed o).is_quoted) own) (p.1 ∙ ap (λ o. (f.printed o).text) own),
        each_printed parts count ts h.1 few_more (subst (λ o. ArePrinted (printed_each f count o) ts) later p.3),
      )

  pub each_back : (octets : List ℕ) (tokens : List TokenSeen) → AreParts f.is_wire octets → ArePrinted (printed_each f (length octets) octets) tokens → SpellOctets f tokens octets
  each_back octets tokens is p =
      subst (SpellOctets f tokens) (sym is.2) (each_printed is.0 (length (concat is.0)) tokens is.1 (omega arith) (subst (λ o. ArePrinted (printed_each f (length o) o) tokens) is.2 p))

module _ (f g : TokenForm) (b : IsBack f g.spells) (behind others : List ℕ → RestForm) where
  pub then_back : ((front back : List ℕ) (tokens : List TokenSeen) → (behind front).is_wire back → ArePrinted ((behind front).printed back) tokens → (others front).spells tokens back)
      → (octets : List ℕ) (tokens : List TokenSeen) → IsThen f behind octets → ArePrinted ((then_form f behind).printed octets) tokens → SpellsThen g others tokens octets
  then_back rest octets [] is p = absurd p
  then_back rest octets (t ∷ ts) is p =
      let all : List ℕ = is.front ++ is.back in
      let q : ArePrinted ((then_form f behind).printed all) (t ∷ ts) = subst (λ o. ArePrinted ((then_form f behind).printed o) (t ∷ ts)) is.octets_are p in
      let width : f.width all ≡ length is.front = b.sized is.front is.back is.is_wire in
      let own : take (f.width all) all ≡ is.front = ap (λ n. take n all) width ∙ take-append_seam is.front is.back in
      let later : drop (f.width all) all ≡ is.back = ap (λ n. drop n all) width ∙ drop-append_seam is.front is.back in
      let tail : ArePrinted ((behind is.front).printed is.back) ts =
      subst (λ o. ArePrinted ((behind is.front).printed o) ts) later (subst (λ o. ArePrinted ((behind o).printed (drop (f.width all) all)) ts) own q.3) in
      record {
        first = t;
        last = ts;
        front = is.front;
        back = is.back;
        tokens_are = refl;
        octets_are = is.octets_are;
        spelled = b.back is.front t is.is_wire (q.0 ∙ ap (λ o. (f.printed o).is_quoted) own) (q.1 ∙ ap (λ o. (f.printed o).text) own);
        rest = rest is.front is.back ts is.rest tail;
      }

-- ---- items

zeros_all : (octets : List ℕ) → ((k : ℕ) → get_or octets k 0 ≡ 0) → replicate (length octets) 0 ≡ octets
zeros_all [] h = refl
zeros_all (o ∷ os) h =
    let head : o ≡ 0 = h 0 in
    let tail : replicate (length os) 0 ≡ os = zeros_all os (λ k. h (suc k)) in
    λ i. sym head i ∷ tail i

padded_is : (part octets : List ℕ) → take (length part) octets ≡ part → ((k : ℕ) → length part ≤ k → get_or octets k 0 ≡ 0) → part ++ replicate (length octets - length part) 0 ≡ octets
padded_is [] octets begins zeros = let n : length octets - 0 ≡ length octets = omega arith in ap (λ n. replicate n 0) n ∙ zeros_all octets (λ k. zeros k (omega arith))
padded_is (p ∷ ps) [] begins zeros = let bad : [] ≡ p ∷ ps = begins in cc bad
padded_is (p ∷ ps) (o ∷ os) begins zeros =
    let is : o ∷ take (length ps) os ≡ p ∷ ps = begins in
    let head : o ≡ p = cc is in
    let tail : take (length ps) os ≡ ps = cc is in
    let n : length (o ∷ os) - length (p ∷ ps) ≡ length os - length ps = omega arith in
    let later : ps ++ replicate (length os - length ps) 0 ≡ os = padded_is ps os tail (λ k from. zeros (suc k) (omega (arith, from))) in
    ap (λ n. (p ∷ ps) ++ replicate n 0) n ∙ (λ i. sym head i ∷ later i)

zeros_back : (size : ℕ) (part octets : List ℕ) → length octets ≡ size → IsAddressPart part octets → with_zeros size part ≡ octets
zeros_back size part octets long h = ap (λ n. part ++ replicate (n - length part) 0) (sym long) ∙ padded_is part octets h.begins h.zeros

address_back : (a : IpAddr) (part : List ℕ) → IsAddress a → IsAddressPart part (address_octets a) → family_address (family_of a) part ≡ a
address_back (V4 a) part valid h = let e : with_zeros 4 part ≡ ipv4_octets a = zeros_back 4 part (ipv4_octets a) valid.0 h in λ i. V4 (record { octets = e i })
address_back (V6 a) part valid h =
    let e : with_zeros 16 part ≡ ipv6_octets a = zeros_back 16 part (ipv6_octets a) (address_length (V6 a) valid) h in
    let segments : segments_of (with_zeros 16 part) ≡ ipv6_segments a = ap segments_of e ∙ segments_back (ipv6_segments a) in
    λ i. V6 (record { segments = segments i })

negated_back : (b : Bool) (n : ℕ) → n ≤ 16 → nat_le 128 (exclusion_bit b + n) ≡ b
negated_back true n few = grind (arith, nat_tests)
negated_back false n few = grind (arith, nat_tests)

pub prefix_is : (p : Prefix) (octets : List ℕ) → IsPrefix p → IsPrefixWire p octets → item_prefix octets ≡ p
prefix_is p octets valid wire =
    let few = few_octets p.address wire.part valid.0 wire.is_part in
    let negated = negated_back p.negated (length wire.part) few in
    let address = address_back p.address wire.part valid.0 wire.is_part in
    ap item_prefix wire.written ∙ (λ i. record { negated = negated i; address = address i; bits = p.bits })

counted : (b : Bool) (n : ℕ) → n ≤ 16 → (exclusion_bit b + n) % 128 ≡ n
counted true n few = omega (arith, few)
counted false n few = omega (arith, few)

pub item_sized : (p : Prefix) (front more : List ℕ) → IsPrefix p → IsPrefixWire p front → item_size (front ++ more) ≡ length front
item_sized p front more valid wire =
    let few = few_octets p.address wire.part valid.0 wire.is_part in
    let count = counted p.negated (length wire.part) few in
    subst (λ o. item_size (o ++ more) ≡ length o) (sym wire.written) (omega (arith, count))

prefix_back : IsBack prefix_form prefix_form.spells
prefix_back = record {
  back = λ octets t is quoted text. (
      let written = text ∙ ap prefix_text (prefix_is is.0 octets is.1 is.2) in
      (quoted, (is.0, subst (λ x. SpellsPrefix x is.0) (sym written) (prefixes_are_read.spelled is.0 is.1), is.2))
      );
  sized = λ front more is. item_sized is.0 front more is.1 is.2;
}

no_item : IsPrefixItem [] → ⊥
no_item is = let bad = is.2.written in cc bad

pub prefixes_back : (octets : List ℕ) (tokens : List TokenSeen) → prefixes_form.is_wire octets → ArePrinted (prefixes_form.printed octets) tokens → prefixes_form.spells tokens octets
prefixes_back octets tokens is p = each_back prefix_form prefix_back no_item octets tokens is p

-- ---- gateways and keys

pub octet_back : IsBack octet_form octet_form.spells
octet_back = record {
  back = λ octets t is quoted text. (
      let law : SpellsField None OfNumber8 (record t { is_quoted = false; text = (field_form None OfNumber8).printed octets }) octets = (fields_are_forms None tt OfNumber8).back octets is in
      subst (λ q. (field_form None OfNumber8).spells q t.text octets) (sym quoted) (subst (λ x. (field_form None OfNumber8).spells false x octets) (sym text) law)
      );
  sized = λ front more is. sym is.0;
}

type_back : IsBack gateway_type_form gateway_type_form.spells
type_back = record { back = λ octets t is quoted text. (octet_back.back octets t is.0 quoted text, is.1); sized = λ front more is. octet_back.sized front more is.0 }

pub word_is : (g : Gateway) (number : ℕ) (octets : List ℕ) → number ≡ gateway_type g → octets ≡ gateway_octets g → gateway_word number octets ≡ gateway_text g
word_is Nothing number octets n is = ap (λ n. gateway_word n octets) n
word_is (Ipv4 a) number octets n is = ap (λ n. gateway_word n octets) n ∙ ap (gateway_word 1) is
word_is (Ipv6 a) number octets n is = ap (λ n. gateway_word n octets) n ∙ ap (gateway_word 2) is ∙ ap (λ s. gateway_text (Ipv6 (record { segments = s }))) (segments_back (ipv6_segments a))

size_is : (g : Gateway) (number : ℕ) (octets : List ℕ) → IsGateway g → number ≡ gateway_type g → gateway_size number octets ≡ length (gateway_octets g)
size_is Nothing number octets valid n = ap (λ n. gateway_size n octets) n
size_is (Ipv4 a) number octets valid n = ap (λ n. gateway_size n octets) n ∙ sym (four_octets a valid)
size_is (Ipv6 a) number octets valid n = ap (λ n. gateway_size n octets) n ∙ sym (sixteen_octets a valid)

-- names at the start of octets have the length of their labels
module _ (names : (form more : List ℕ) → IsWireName form → labels_size (length (form ++ more)) (form ++ more) ≡ length form) where
  pub gateway_sized : (number : ℕ) (front more : List ℕ) → (gateway_form None number).is_wire front → gateway_size number (front ++ more) ≡ length front
  gateway_sized number front more (inl name) = ap (λ n. gateway_size n (front ++ more)) name.0 ∙ names front more name.1
  gateway_sized number front more (inr own) = size_is own.0 number (front ++ more) own.1 (sym own.2) ∙ sym (ap length own.3)

-- digits parse as they print
module _ (origin : Option (List (List ℕ))) (known : IsOrigin origin) (names : (form more : List ℕ) → IsWireName form → labels_size (length (form ++ more)) (form ++ more) ≡ length form)
    (digits : (octets : List ℕ) (tokens : List TokenSeen) → AreOctetValues octets → ArePrinted (printed_digits base64 octets) tokens → SpellsJoined base64 tokens octets) where
  gateway_spelled : (number : ℕ) (octets : List ℕ) (t : TokenSeen) → (gateway_form None number).is_wire octets → t.is_quoted ≡ false → t.text ≡ gateway_word number octets → (gateway_form origin number).spells t octets
  gateway_spelled number octets t (inl name) quoted text =
      let law : (field_form origin OfName).spells false ((field_form origin OfName).printed octets) octets = (fields_are_forms origin known OfName).back octets name.1 in
      let written = text ∙ ap (λ n. gateway_word n octets) name.0 in
      inl (name.0, subst (λ q. (field_form origin OfName).spells q t.text octets) (sym quoted) (subst (λ x. (field_form origin OfName).spells false x octets) (sym written) law))
  gateway_spelled number octets t (inr own) quoted text =
      let g : Gateway = own.0 in
      let written = text ∙ word_is g number octets (sym own.2) own.3 in
      inr (quoted, (g, subst (λ x. SpellsGateway number x g) (sym written) (subst (λ n. SpellsGateway n (gateway_text g) g) own.2 (gateways_are_read.spelled g own.1)), own.3))

  gateway_back : (number : ℕ) → IsBack (gateway_form None number) (gateway_form origin number).spells
  gateway_back number = record { back = gateway_spelled number; sized = gateway_sized names number }

  key_back : (algorithm : ℕ) (octets : List ℕ) (tokens : List TokenSeen) → (key_form algorithm).is_wire octets → ArePrinted ((key_form algorithm).printed octets) tokens → (key_form algorithm).spells tokens octets
  key_back algorithm octets tokens is p = (digits octets tokens is.0 p, is.1)

  algorithm_back : (number algorithm : ℕ) (octets : List ℕ) (tokens : List TokenSeen) → (behind_algorithm None number algorithm).is_wire octets → ArePrinted ((behind_algorithm None number algorithm).printed octets) tokens
      → (behind_algorithm origin number algorithm).spells tokens octets
  algorithm_back number algorithm octets tokens is p =
      then_back (gateway_form None number) (gateway_form origin number) (gateway_back number) (λ gateway. key_form algorithm) (λ gateway. key_form algorithm) (λ front. key_back algorithm) octets tokens is p

  behind_back : (number : ℕ) (octets : List ℕ) (tokens : List TokenSeen) → (behind_type None number).is_wire octets → ArePrinted ((behind_type None number).printed octets) tokens → (behind_type origin number).spells tokens octets
  behind_back number octets tokens is p =
      then_back octet_form octet_form octet_back (λ algorithm. behind_algorithm None number (slice_index algorithm 0)) (λ algorithm. behind_algorithm origin number (slice_index algorithm 0)) (λ front. algorithm_back number (slice_index front 0)) octets tokens is p

  pub gateway_key_back : (octets : List ℕ) (tokens : List TokenSeen) → (gateway_key_form None).is_wire octets → ArePrinted ((gateway_key_form None).printed octets) tokens → (gateway_key_form origin).spells tokens octets
  gateway_key_back octets tokens is p =
      then_back gateway_type_form gateway_type_form type_back (λ number. behind_type None (slice_index number 0)) (λ number. behind_type origin (slice_index number 0)) (λ front. behind_back (slice_index front 0)) octets tokens is p

-- ---- printing items

pub no_more_items : (count : ℕ) → printed_each prefix_form count [] ≡ []
no_more_items zero = refl
no_more_items (suc count) = refl

-- the next item is printed, and those after it are left
pub record NextItem (count : ℕ) (octets rest : List ℕ) (item : Prefix) : Type 0 where
  pub fewer : ℕ
  pub enough : length rest ≤ fewer
  pub is : printed_each prefix_form count octets ≡ record { is_quoted = false; text = prefix_text item } ∷ printed_each prefix_form fewer rest

pub next_item : (count : ℕ) (octets : List ℕ) (width : ℕ) (item : Prefix) → 0 < length octets → length octets ≤ count → (p : Prefix) × IsItemOf octets p width → BeginsWithItem octets item → NextItem count octets (drop width octets) item
next_item zero octets width item some few found begins = absurd (omega (arith, some, few))
next_item (suc count) [] width item some few found begins = absurd (omega (arith, some))
next_item (suc count) (o ∷ os) width item some few found begins =
    let all : List ℕ = o ∷ os in
    let front : List ℕ = take width all in
    let parts : front ++ drop width all ≡ all = take-append-drop width all in
    let here : BeginsWithItem all found.0 = record { valid = found.1.0; item = front; rest = drop width all; wire = found.1.2; split = sym parts } in
    let same : found.0 ≡ item = prefixes_are_read.one_item all found.0 item here begins in
    let size : item_size all ≡ width = ap item_size (sym parts) ∙ item_sized found.0 front (drop width all) found.1.0 found.1.2 ∙ length-take-le width all found.1.1 in
    let written = ap length found.1.2.written in
    let long : length front ≡ width = length-take-le width all found.1.1 in
    let shorter = length-drop width all in
    record {
      fewer = count;
      enough = omega (arith, few, written, long, shorter);
      is = ap (λ n. prefix_form.printed (take n all) ∷ printed_each prefix_form count (drop n all)) size
          ∙ ap (λ q. record { is_quoted = false; text = prefix_text q } ∷ printed_each prefix_form count (drop width all)) (prefix_is found.0 front found.1.0 found.1.2 ∙ same);
    }

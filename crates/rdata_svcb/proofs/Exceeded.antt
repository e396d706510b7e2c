-- Parameters of which a beginning exceeds the room exceed it.
use Rattle.std.proofs.Common.{ℕ, ◌≡◌, ◌≢◌, ◌<◌, ◌≤◌, ◌+◌, ◌⊎◌, false, List, [], ◌∷◌, ◌++◌, length, refl, sym, subst, ap, ◌∙◌, arith, inl, inr, append-nil}
use Rattle.std.proofs.lemmas.Grind.{flat_map-append}
use Rattle.std.proofs.lemmas.List.{length-append}
use Rattle.std.specs.List.{flat_map, AllPairs, AllZip}
use Rattle.dns_codec.specs.Base.{base64}
use Rattle.dns_octets.specs.Room.{Room}
use Rattle.dns_lexer.specs.EntryTokens.{TokenSeen}
use Rattle.rdata_tokens.specs.Reading.{DigitsState}
use Rattle.rdata_tokens.specs.Spelled.{SpellsDigits}
use Rattle.rdata_tokens.specs.declared.kind.DigitsKind.TheVariants.{Base64}
use Rattle.rdata_tokens.proofs.Fronts.{fewer_spelled}
use Rattle.rdata_tokens.proofs.Spellings.{goes_on}
use Rattle.rdata_tokens.proofs.TakenDigit.{least_begun}
use Rattle.rdata_svcb.specs.Items.{BeginsApart}
use Rattle.rdata_svcb.specs.Keys.{NamesKey}
use Rattle.rdata_svcb.specs.ListItems.{BeginsStrings, ContinuesToItem}
use Rattle.rdata_svcb.specs.Params.{param_head, params_wire}
use Rattle.rdata_svcb.specs.ParamRefusals.{ExceedsNew, ExceedsParams, ExceedsValue}
use Rattle.rdata_svcb.specs.ParamSteps.{BeginsWithOneParam, MayBeginParam}
use Rattle.rdata_svcb.specs.ParamTokens.{FindsParam, IsClosedWord, IsOpenWord, IsValueAfterWord, ReadsEachParam, ReadsParam, SpellsFirstParam, SpellsFirstParams, SpellsParams, SplitsWord}
use Rattle.rdata_svcb.specs.ParamValues.{BeginsValues, SpellsIpv4, SpellsIpv6, SpellsStrings, SpellsValue, SpellsValues}
use Rattle.rdata_svcb.specs.Texts.{list_text, wire_strings}
use Rattle.rdata_svcb.specs.declared.keys.ValueKind.{ValueKind}
use Rattle.rdata_svcb.specs.declared.keys.ValueKind.TheVariants.{Keys, Strings, Nothing, Port, Ipv4, Digits, Ipv6, Octets}
use Rattle.rdata_svcb.proofs.Fronts.{behind_once, closed_once, front_goes_on, goes_on_apart, ipv4_once, ipv6_once, open_once, value_once}
use Rattle.rdata_svcb.proofs.KeyRefusals.{key_once}
use Rattle.rdata_svcb.proofs.ListRefusals.{list_ends, list_on}
use Rattle.rdata_svcb.proofs.NewKeys.{new_of_all}
use Rattle.rdata_svcb.proofs.Refusals.{SpellsOnce, commas_go_on, next_value, zip_go_on}
use Rattle.rdata_svcb.proofs.Sizes.{small_key, wire_longer}
use Rattle.rdata_svcb.proofs.WireItems.{one_list_text}

-- ---- values

strings_within : (text front octets : List ℕ) → BeginsStrings text front → SpellsStrings text octets → length front ≤ length octets
strings_within text front octets b s =
    let items : List (List ℕ) = b.0 in
    let on = goes_on text (list_text items) b.1 s.list b.3 s.spelled in
    by on.0 (s.listed ∙ on.2) (list_ends b.1 b.4 on.0 on.1)
  where
    by : (more : List ℕ) → list_text s.items ≡ list_text b.0 ++ more → ContinuesToItem more → length front ≤ length octets
    by more e (inl none) =
        let all : list_text s.items ≡ list_text b.0 = e ∙ ap (λ x. list_text b.0 ++ x) none ∙ append-nil (list_text b.0) in
        let same : s.items ≡ b.0 = one_list_text s.items b.0 s.is_list b.2 all in
        omega (arith, ap length b.5, ap length s.whole, ap (λ x. length (wire_strings x)) same)
    by more e (inr k) =
        let next : list_text b.0 ++ 44 ∷ k.0 ≡ list_text s.items = ap (λ x. list_text b.0 ++ x) (sym k.1) ∙ sym e in
        let found = list_on b.0 s.items k.0 b.2.some next s.is_list in
        omega (
          arith,
          ap length b.5,
          ap length s.whole,
          ap (λ x. length (wire_strings x)) found.2,
          ap length (flat_map-append (λ item. length item ∷ item) b.0 (found.0 ∷ found.1)),
          length-append (wire_strings b.0) (wire_strings (found.0 ∷ found.1)),
        )

values_within : (spells : List ℕ → List ℕ → Type 0) → SpellsOnce spells → (text front octets : List ℕ) → BeginsValues spells text front → SpellsValues spells text octets → length front ≤ length octets
values_within spells once text front octets b s =
    let begun : BeginsApart spells text b.0 b.1 = b.3 in
    let left : List ℕ = (b.1 ++ 44 ∷ []) ++ begun.rest in
    let on = commas_go_on begun.texts s.spelled.texts left begun.apart s.spelled.apart (sym begun.whole ∙ s.spelled.whole) in
    let zip = zip_go_on spells begun.texts on.0 b.0 s.values once begun.each (subst (λ ts. AllZip spells ts s.values) on.1 s.spelled.each) in
    let next = next_value spells b.1 begun.rest b.0 s.values on.0 zip.0 begun.next on.2 on.3 zip.1 zip.2 in
    let same : b.2 ≡ next.0 = once b.1 b.2 next.0 b.4 next.3 in
    omega (
      arith,
      ap length b.5,
      ap length s.whole,
      ap (λ vs. length (flat_map (λ (v : List ℕ). v) vs)) next.2,
      ap length (flat_map-append (λ (v : List ℕ). v) b.0 (next.0 ∷ next.1)),
      length-append (flat_map (λ (v : List ℕ). v) b.0) b.2,
      length-append (flat_map (λ (v : List ℕ). v) b.0) (flat_map (λ (v : List ℕ). v) (next.0 ∷ next.1)),
      length-append next.0 (flat_map (λ (v : List ℕ). v) next.1),
      ap length same,
    )

-- a value of which a beginning exceeds the room exceeds it
value_exceeded : (room : Room) (kind : ValueKind) (text old octets : List ℕ) → ExceedsValue room kind text old → SpellsValue kind text octets → room.fits < length old + length octets
value_exceeded room Keys text old octets h s = omega (arith, h.2, ap length (value_once Keys text h.0 octets h.1 s))
value_exceeded room Strings text old octets h s = omega (arith, h.2, strings_within text h.0 octets h.1 s)
value_exceeded room Nothing text old octets h s = absurd h
value_exceeded room Port text old octets h s = omega (arith, h.2, ap length (value_once Port text h.0 octets h.1 s))
value_exceeded room Ipv4 text old octets h s = omega (arith, h.2, values_within SpellsIpv4 ipv4_once text h.0 octets h.1 s)
value_exceeded room Digits text old octets h s =
    let fresh : DigitsState = record { kind = Base64; begun = []; ended = false } in
    let all : SpellsDigits base64 (text ++ []) octets = subst (λ t. SpellsDigits base64 t octets) (sym (append-nil text)) s in
    omega (arith, h.2, least_begun fresh text h.0 octets (refl, h.1.0, h.1.1, h.1.2, h.1.3, h.1.4) (refl, ([], all)))
value_exceeded room Ipv6 text old octets h s = omega (arith, h.2, values_within SpellsIpv6 ipv6_once text h.0 octets h.1 s)
value_exceeded room Octets text old octets h s = omega (arith, h.2, fewer_spelled text h.0 h.1.0 octets h.1.1 s)

-- ---- parameters

module _ (t : TokenSeen) (tokens : List TokenSeen) (key : ℕ) (kind : ValueKind) (value : List ℕ) (at after : List TokenSeen) (finds : FindsParam (t ∷ tokens) key kind value at after) where
  -- a parameter that tokens spell has the key and the value that are found
  pub found_first : (q : ℕ × List ℕ) (mid : List TokenSeen) → SpellsFirstParam (t ∷ tokens) q mid → MayBeginParam mid → (q.0 ≡ key) × SpellsValue kind value q.1 × (mid ≡ after)
  found_first q mid f apart = by finds.1.2
    where
      of : f.name ≡ finds.1.0 → f.value ≡ value → mid ≡ after → (q.0 ≡ key) × SpellsValue kind value q.1 × (mid ≡ after)
      of name is end =
          let named : NamesKey finds.1.0 q.0 f.spelled.0 = subst (λ n. NamesKey n q.0 f.spelled.0) name f.spelled.1 in
          let one = key_once finds.1.0 q.0 key f.spelled.0 kind named finds.1.1 in
          let spelled : SpellsValue kind f.value q.1 = subst (λ k. SpellsValue k f.value q.1) one.1 f.spelled.2 in
          (one.0, subst (λ v. SpellsValue kind v q.1) is spelled, end)

      by : (SplitsWord t.text finds.1.0 value × IsClosedWord t.text × (at ≡ t ∷ tokens) × (after ≡ tokens)) ⊎ (IsOpenWord t.text finds.1.0 × (at ≡ tokens) × IsValueAfterWord tokens value after)
          → (q.0 ≡ key) × SpellsValue kind value q.1 × (mid ≡ after)
      by (inl c) = let same = closed_once t tokens finds.1.0 value f.name f.value mid c.0 c.1 f.split.1 in of same.0 same.1 (same.2 ∙ sym c.3)
      by (inr o) =
          let one = open_once t tokens finds.1.0 f.name f.value mid o.0 f.split.1 apart in
          let same = behind_once tokens value f.value after mid o.2 one.1 in
          of one.0 same.0 same.1

read_is_first : (tokens : List TokenSeen) (p : ℕ × List ℕ) (after : List TokenSeen) → ReadsParam tokens p after → BeginsWithOneParam tokens p after
read_is_first [] p after r q mid f apart = absurd f.split
read_is_first (t ∷ tokens) p after r q mid f apart =
    let found = found_first t tokens p.0 r.0 r.1 r.2 after r.3 q mid f apart in
    let octets : q.1 ≡ p.1 = value_once r.0 r.1 q.1 p.1 found.1 r.4 in
    (ap (λ key. (key, q.1)) found.0 ∙ ap (λ v. (p.0, v)) octets, found.2)

pub some_read : (tokens : List TokenSeen) (p : ℕ × List ℕ) (after : List TokenSeen) → ReadsParam tokens p after → tokens ≢ []
some_read [] p after r e = r.3
some_read (t ∷ tokens) p after r e = absurd cc

-- the parameters of all tokens begin with those that are read
pub reads_go_on : (tokens : List TokenSeen) (params all : List (ℕ × List ℕ)) (rest : List TokenSeen) → ReadsEachParam tokens params rest → SpellsFirstParams tokens all []
    → (more : List (ℕ × List ℕ)) × (all ≡ params ++ more) × SpellsFirstParams rest more []
reads_go_on tokens [] all rest r s = (all, refl, subst (λ ts. SpellsFirstParams ts all []) r s)
reads_go_on tokens (p ∷ params) all rest r s =
    let front = front_goes_on tokens r.0 p all (some_read tokens p r.0 r.1) (read_is_first tokens p r.0 r.1) s in
    let on = reads_go_on r.0 params front.0 rest r.2 front.2 in
    (on.0, front.1 ∙ ap (λ ps. p ∷ ps) on.1, on.2)

no_first : (rest left : List TokenSeen) (room : Room) (old : List ℕ) → ExceedsNew room rest left old → rest ≢ []
no_first [] left room old (inl h) e = h.1
no_first [] left room old (inr h) e = h.4
no_first (t ∷ rest) left room old h e = absurd cc

module _ (room : Room) (old before : List ℕ) (left : List TokenSeen) where
  -- the next parameter exceeds the room after others
  new_exceeded : (rest : List TokenSeen) (p : ℕ × List ℕ) (mid : List TokenSeen) → ExceedsNew room rest left (old ++ before) → SpellsFirstParam rest p mid → MayBeginParam mid
      → room.fits < length old + length before + (4 + length p.1)
  new_exceeded rest p mid (inl h) f apart = omega (arith, h.2, length-append old before)
  new_exceeded [] p mid (inr h) f apart = absurd f.split
  new_exceeded (t ∷ rest) p mid (inr h) f apart =
      let key : ℕ = h.0 in
      let found = found_first t rest key h.1 h.2 left h.3 h.4 p mid f apart in
      let few = value_exceeded room h.1 h.2 ((old ++ before) ++ param_head key) p.1 h.5 found.1 in
      let head : length (param_head key) ≡ 4 = refl in
      omega (arith, few, length-append (old ++ before) (param_head key), length-append old before, head)

-- parameters of which a beginning exceeds the room exceed it
pub params_exceeded : (room : Room) (tokens left : List TokenSeen) (old octets : List ℕ) → ExceedsParams room tokens left old → SpellsParams tokens octets → room.fits < length old + length octets
params_exceeded room tokens left old octets h s =
    let on = reads_go_on tokens h.0 s.params h.1 h.2.read s.spelled in
    by on.0 on.1 on.2
  where
    by : (more : List (ℕ × List ℕ)) → s.params ≡ h.0 ++ more → SpellsFirstParams h.1 more [] → room.fits < length old + length octets
    by [] is none = absurd (no_first h.1 left room (old ++ params_wire h.0) h.3 none)
    by (p ∷ more) is first =
        let once : AllPairs (λ p q. p.0 ≢ q.0) (h.0 ++ p ∷ more) = subst (λ ps. AllPairs (λ p q. p.0 ≢ q.0) ps) is s.once in
        let small = small_key first.1.name p.0 first.1.spelled.0 first.1.spelled.1 in
        let longer = wire_longer h.0 more p small (new_of_all h.0 more p once) in
        let few = new_exceeded room old (params_wire h.0) left h.1 p first.0 h.3 first.1 (goes_on_apart first.0 more first.2) in
        omega (arith, few, longer, ap length s.whole, ap (λ ps. length (params_wire ps)) is)

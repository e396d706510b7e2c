-- Host identities, as words and as octets.
use Rattle.std.proofs.Common.{ℕ, true, false, ◌≡◌, ◌≢◌, ◌<◌, ◌≤◌, ◌+◌, ◌-◌, ◌⊎◌, Option, Some, None, List, [], ◌∷◌, ◌++◌, length, take, drop, refl, sym, ap, subst, ◌∙◌, inl, inr, arith, append-nil, append_assoc, length-append, take-append-drop, length-take-le}
use Rattle.std.proofs.lemmas.List.Elements.{All-from_get_or}
use Rattle.std.specs.Int.{from_be_bytes, to_be_bytes, w16}
use Rattle.std.specs.Prelude.{Result, Ok, Err, slice_index}
use Rattle.dns_codec.specs.Base.{base64, encoded}
use Rattle.dns_octets.specs.Room.{Room}
use Rattle.dns_octets.specs.Appending.{Gains, ExceedsRoom}
use Rattle.dns_lexer.specs.EntryTokens.{TokenSeen}
use Rattle.rdata_tokens.specs.NameSpelling.{IsOrigin, IsWireName}
use Rattle.rdata_tokens.specs.Reading.{DigitsState, PaddedBefore}
use Rattle.rdata_tokens.specs.Spelled.{BeginsWithDigits, SpellsDigits}
use Rattle.rdata_tokens.specs.Spelling.{AreOctetValues}
use Rattle.rdata_tokens.specs.Tokens.{DigitsContinue, RefusesToken}
use Rattle.rdata_tokens.specs.declared.kind.DigitsKind.TheVariants.{Base64 as InBase64}
use Rattle.rdata_tokens.proofs.NameLaws.{names_spelled}
use Rattle.rdata_tokens.proofs.Spelling.{known, spells_once}
use Rattle.rdata_tokens.proofs.TakenDigit.{least_begun}
use Rattle.rdata_fields.specs.Fields.{field_form}
use Rattle.rdata_fields.specs.Parsing.{BeginsField, SpellsField}
use Rattle.rdata_fields.specs.declared.field.Field.TheVariants.{Number8 as OfNumber8, Name as OfName}
use Rattle.rdata_fields.specs.declared.record_error.RecordError.{RecordError}
use Rattle.rdata_fields.proofs.FormLaws.{fields_are_forms, fields_begun}
use Rattle.rdata_fields.proofs.Refused.{field_once}
use Rattle.rdata_values.specs.Hex.{IsHex}
use Rattle.rdata_values.specs.declared.error.ErrorKind.{ErrorKind}
use Rattle.rdata_values.specs.declared.error.ErrorKind.TheVariants.{IllegalBase64, IncompleteBase64, LongKey, ShortBuf, TrailingBase64}
use Rattle.rdata_values.proofs.SaltLaws.{salts_are_kind}
use Rattle.rdata.specs.GatewayKeys.{octet_form}
use Rattle.rdata.specs.HeldForms.{held_form}
use Rattle.rdata.specs.HostIdentities.{IsHit, SpellsHit, hit_form, identity_octets, IsPublicKey, SpellsPublicKey, BeginsPublicKey, SpellsHost, BeginsHost, PublicKeyTextReason, RefusesHost, SetsCount, public_key_form, server_form, servers_form, host_identity_form, IsHostPart}
use Rattle.rdata.specs.RestLaws.{HoldOctets}
use Rattle.rdata.specs.Rests.{RestForm, ParsesTail}
use Rattle.rdata.specs.TokenForms.{RefusesTokenAs, each_form, then_form}
use Rattle.rdata.proofs.GatewayLaws.{octet_once}
use Rattle.rdata.proofs.HeldRests.{held_once, held_exceeded, held_before, held_wire}
use Rattle.rdata.proofs.PlacesWire.{each_wire, then_wire}
use Rattle.rdata.proofs.PrefixListLaws.{is_none}
use Rattle.rdata.proofs.TokenRests.{SpelledOnce, BegunWithin, whole_within, each_once, each_exceeded, then_once, then_exceeded, behind_taken}

-- ---- the parts after one another

abbrev pub after_hit : Option (List (List ℕ)) → ℕ → List ℕ → RestForm
after_hit origin algorithm hit = then_form (public_key_form algorithm hit) (λ key. servers_form origin)

-- the tag in octets, and the algorithm
abbrev pub shown_hit : List ℕ → List ℕ
shown_hit octets = take (slice_index octets 0) (drop 4 octets)

abbrev pub shown_algorithm : List ℕ → List ℕ
shown_algorithm octets = slice_index octets 1 ∷ []

abbrev pub after_algorithm : Option (List (List ℕ)) → ℕ → RestForm
after_algorithm origin algorithm = held_form shown_hit hit_form (λ hit. after_hit origin algorithm hit)

-- ---- what is spelled is spelled once

pub hit_once : SpelledOnce hit_form.spells
hit_once t a b h k = salts_are_kind.once t.text a b (inr (h.1, h.2, h.3)) (inr (k.1, k.2, k.3))

pub public_key_once : (algorithm : ℕ) (hit : List ℕ) → SpelledOnce (public_key_form algorithm hit).spells
public_key_once algorithm hit t a b h k =
    let same : h.1.0 ≡ k.1.0 = spells_once base64 (known InBase64) t.text h.1.0 k.1.0 h.1.1.0 k.1.1.0 in
    h.1.2 ∙ ap (identity_octets algorithm hit) same ∙ sym k.1.2

pub server_once : (origin : Option (List (List ℕ))) → SpelledOnce (server_form origin).spells
server_once origin t a b h k = field_once origin OfName t a b h k

after_hit_once : (origin : Option (List (List ℕ))) (algorithm : ℕ) (hit : List ℕ) (tokens : List TokenSeen) (a b : List ℕ) → (after_hit origin algorithm hit).spells tokens a → (after_hit origin algorithm hit).spells tokens b → a ≡ b
after_hit_once origin algorithm hit tokens a b h k =
    then_once (public_key_form algorithm hit) (λ key. servers_form origin) (public_key_once algorithm hit) (λ key ts. each_once (server_form origin) (server_once origin) ts) tokens a b h k

after_algorithm_once : (origin : Option (List (List ℕ))) (algorithm : ℕ) (tokens : List TokenSeen) (a b : List ℕ) → (after_algorithm origin algorithm).spells tokens a → (after_algorithm origin algorithm).spells tokens b → a ≡ b
after_algorithm_once origin algorithm tokens a b h k = held_once shown_hit hit_form (λ hit. after_hit origin algorithm hit) hit_once (λ hit ts. after_hit_once origin algorithm hit ts) tokens a b h k

pub host_once : (origin : Option (List (List ℕ))) (tokens : List TokenSeen) (a b : List ℕ) → (host_identity_form origin).spells tokens a → (host_identity_form origin).spells tokens b → a ≡ b
host_once origin tokens a b h k =
    held_once shown_algorithm octet_form (λ algorithm. after_algorithm origin (slice_index algorithm 0)) octet_once (λ algorithm ts. after_algorithm_once origin (slice_index algorithm 0) ts) tokens a b h k

-- ---- what begins to exceed the room exceeds it

-- the number of octets
pub host_size : (algorithm : ℕ) (hit key : List ℕ) → length (identity_octets algorithm hit key) ≡ 4 + length hit + length key
host_size algorithm hit key = let sum = length-append hit key in omega (arith, sum)

key_within : (text front key : List ℕ) → BeginsPublicKey text front → SpellsDigits base64 text key → length front ≤ length key
key_within text front key (inl none) sp = let zero_long = ap length none in omega (arith, zero_long)
key_within text front key (inr begun) sp =
    let fresh : DigitsState = record { kind = InBase64; begun = []; ended = false } in
    least_begun fresh text front key (refl, begun.0, begun.1, begun.2, begun.3, begun.4) (refl, ([], subst (λ z. SpellsDigits base64 z key) (sym (append-nil text)) sp))

public_key_within : (algorithm : ℕ) (hit : List ℕ) → BegunWithin (public_key_form algorithm hit).begins (public_key_form algorithm hit).spells
public_key_within algorithm hit t front octets b sp =
    let few = key_within t.text b.1.0 sp.1.0 b.1.1 sp.1.1.0 in
    let short = ap length b.1.2 ∙ host_size algorithm hit b.1.0 in
    let long = ap length sp.1.2 ∙ host_size algorithm hit sp.1.0 in
    omega (arith, few, short, long)

server_within : (origin : Option (List (List ℕ))) → BegunWithin (server_form origin).begins (server_form origin).spells
server_within origin t front octets h k = fields_begun origin OfName t.is_quoted t.text front octets h k

module _ (origin : Option (List (List ℕ))) (room : Room) (left : List TokenSeen) where
  after_hit_exceeded : (algorithm : ℕ) (hit : List ℕ) (tokens : List TokenSeen) (old octets : List ℕ) → (after_hit origin algorithm hit).exceeds room tokens left old → (after_hit origin algorithm hit).spells tokens octets
      → room.fits < length old + length octets
  after_hit_exceeded algorithm hit tokens old octets h sp =
      then_exceeded (public_key_form algorithm hit) (λ key. servers_form origin) room left old octets (public_key_once algorithm hit) (public_key_within algorithm hit)
      (λ key ts o back e k. each_exceeded (server_form origin) (server_once origin) (server_within origin) room ts left o back e k) tokens h sp

  after_algorithm_exceeded : (algorithm : ℕ) (tokens : List TokenSeen) (old octets : List ℕ) → (after_algorithm origin algorithm).exceeds room tokens left old → (after_algorithm origin algorithm).spells tokens octets
      → room.fits < length old + length octets
  after_algorithm_exceeded algorithm tokens old octets h sp =
      held_exceeded shown_hit hit_form (λ hit. after_hit origin algorithm hit) hit_once room left old octets (λ hit ts e k. after_hit_exceeded algorithm hit ts old octets e k) tokens h sp

  pub host_exceeded : (tokens : List TokenSeen) (old octets : List ℕ) → (host_identity_form origin).exceeds room tokens left old → (host_identity_form origin).spells tokens octets → room.fits < length old + length octets
  host_exceeded tokens old octets h sp =
      held_exceeded shown_algorithm octet_form (λ algorithm. after_algorithm origin (slice_index algorithm 0)) octet_once room left old octets (λ algorithm ts e k. after_algorithm_exceeded (slice_index algorithm 0) ts old octets e k) tokens h sp

-- ---- what is parsed one after the other

module _ (origin : Option (List (List ℕ))) (algorithm : ℕ) (room : Room) (end : ℕ) (tokens : List TokenSeen) (old : List ℕ) (begun : ℕ) (rest : List TokenSeen) (r : Result (Unit {0}) RecordError) (left : List TokenSeen) (new : List ℕ) where
  pub algorithm_first : begun ≡ end → (t : TokenSeen) × (tokens ≡ t ∷ rest) × octet_form.spells t (algorithm ∷ []) → ParsesTail room (after_algorithm origin algorithm) begun rest old r left new
      → ParsesTail room (host_identity_form origin) end tokens old r left new
  algorithm_first ends k h = held_before shown_algorithm octet_form (λ algorithm. after_algorithm origin (slice_index algorithm 0)) room end tokens old octet_once k.0 rest (algorithm ∷ []) k.1 k.2 begun r left new ends h

  pub hit_first : (hit : List ℕ) → begun ≡ end → (t : TokenSeen) × (tokens ≡ t ∷ rest) × hit_form.spells t hit → ParsesTail room (after_hit origin algorithm hit) begun rest old r left new
      → ParsesTail room (after_algorithm origin algorithm) end tokens old r left new
  hit_first hit ends k h = held_before shown_hit hit_form (λ hit. after_hit origin algorithm hit) room end tokens old hit_once k.0 rest hit k.1 k.2 begun r left new ends h

  pub key_first : (hit middle : List ℕ) → begun ≡ end → (t : TokenSeen) × (tokens ≡ t ∷ rest) × Gains ((public_key_form algorithm hit).spells t) old middle
      → ParsesTail room (servers_form origin) begun rest middle r left new → ParsesTail room (after_hit origin algorithm hit) end tokens old r left new
  key_first hit middle ends k h =
      behind_taken (public_key_form algorithm hit) (λ key. servers_form origin) room end tokens old (public_key_once algorithm hit) k.0 rest k.2.0 middle k.1 k.2.1 k.2.2 begun r left new ends h

-- ---- the part that is rejected

module _ (origin : Option (List (List ℕ))) (tokens left : List TokenSeen) (t : TokenSeen) (rest : List TokenSeen) (is : tokens ≡ t ∷ rest) (algorithm : ℕ) (spelled : octet_form.spells t (algorithm ∷ [])) where
  pub hit_part : left ≡ rest → IsHostPart origin tokens left 1
  hit_part at = subst (λ ts. IsHostPart origin ts left 1) (sym is) (algorithm ∷ [], spelled, at)

  module _ (u : TokenSeen) (more : List TokenSeen) (next : rest ≡ u ∷ more) (hit : List ℕ) (named : hit_form.spells u hit) where
    pub public_key_part : left ≡ more → IsHostPart origin tokens left 2
    public_key_part at = subst (λ ts. IsHostPart origin ts left 2) (sym (is ∙ ap (λ l. t ∷ l) next)) (algorithm ∷ [], spelled, (hit, named, at))

    pub server_part : (v : TokenSeen) (last : List TokenSeen) (octets : List ℕ) → more ≡ v ∷ last → (public_key_form algorithm hit).spells v octets → IsHostPart origin tokens left 3
    server_part v last octets third key = subst (λ ts. IsHostPart origin ts left 3) (sym (is ∙ ap (λ l. t ∷ l) (next ∙ ap (λ l. u ∷ l) third))) (algorithm ∷ [], spelled, (hit, named, (octets, key, refl)))

-- ---- in octets

-- each octet of hexadecimal digits is one
hex_values : (text octets : List ℕ) → IsHex text octets → AreOctetValues octets
hex_values text octets h = All-from_get_or (λ o. o < 256) octets 0 (λ k here. let pair = h.pairs k here in omega (arith, pair.high, pair.low, pair.value))

module _ (origin : Option (List (List ℕ))) (is : IsOrigin origin) where
  host_octet_wire : (t : TokenSeen) (octets : List ℕ) → AreOctetValues t.text → octet_form.spells t octets → octet_form.is_wire octets
  host_octet_wire t octets values s = (fields_are_forms None tt OfNumber8).are_wire t.is_quoted t.text octets values s

  hit_wire : (t : TokenSeen) (octets : List ℕ) → AreOctetValues t.text → hit_form.spells t octets → hit_form.is_wire octets
  hit_wire t octets values s = (hex_values t.text octets s.1, s.2, s.3)

  public_key_wire : (algorithm : ℕ) (hit : List ℕ) (t : TokenSeen) (octets : List ℕ) → AreOctetValues t.text → (public_key_form algorithm hit).spells t octets → (public_key_form algorithm hit).is_wire octets
  public_key_wire algorithm hit t octets values s = (s.1.0, (s.1.1.0.bytes, s.1.1.1, s.1.1.2), s.1.2)

  server_wire : (t : TokenSeen) (octets : List ℕ) → AreOctetValues t.text → (server_form origin).spells t octets → (server_form origin).is_wire octets
  server_wire t octets values s = (names_spelled origin is).spelled t.text octets values s.1

  after_hit_wire : (algorithm : ℕ) (hit : List ℕ) (tokens : List TokenSeen) (octets : List ℕ) → HoldOctets tokens → (after_hit origin algorithm hit).spells tokens octets → (after_hit origin algorithm hit).is_wire octets
  after_hit_wire algorithm hit tokens octets h k =
      then_wire (public_key_form algorithm hit) (λ key. servers_form origin) (public_key_wire algorithm hit) (λ key ts os. each_wire (server_form origin) server_wire ts os) tokens octets h k

  after_algorithm_wire : (algorithm : ℕ) (tokens : List TokenSeen) (octets : List ℕ) → HoldOctets tokens → (after_algorithm origin algorithm).spells tokens octets → (after_algorithm origin algorithm).is_wire octets
  after_algorithm_wire algorithm tokens octets h k = held_wire shown_hit hit_form (λ hit. after_hit origin algorithm hit) hit_wire (after_hit_wire algorithm) tokens octets h k

  pub host_is_wire : (tokens : List TokenSeen) (octets : List ℕ) → HoldOctets tokens → (host_identity_form origin).spells tokens octets → (host_identity_form origin).is_wire octets
  host_is_wire tokens octets h k =
      held_wire shown_algorithm octet_form (λ algorithm. after_algorithm origin (slice_index algorithm 0)) host_octet_wire (λ algorithm. after_algorithm_wire (slice_index algorithm 0)) tokens octets h k

-- the octets don't depend on the origin
pub same_host_wire : (origin : Option (List (List ℕ))) (octets : List ℕ) → (host_identity_form origin).is_wire octets → (host_identity_form None).is_wire octets
same_host_wire origin octets h =
    let last = h.2.2 in
    (h.0, h.1, (h.2.0, h.2.1, record { front = last.front; back = last.back; octets_are = last.octets_are; is_wire = last.is_wire; rest = last.rest }))

-- ---- a key

-- a text that is not a key, as a token
pub host_refused : (room : Room) (algorithm : ℕ) (hit : List ℕ) (t : TokenSeen) (ts : List TokenSeen) (old : List ℕ) (e : ErrorKind) → t.is_quoted ≡ false → RefusesHost room algorithm hit t.text old e
    → RefusesTokenAs room (public_key_form algorithm hit).begins (public_key_form algorithm hit).spells (public_key_form algorithm hit).reason (t ∷ ts) old e
host_refused room algorithm hit t ts old e plain (inl short) = inl (short.0, (short.1.0, (plain, short.1.1), short.1.2))
host_refused room algorithm hit t ts old e plain (inr bad) = inr (inr (plain, bad.0), λ octets sp. bad.1 octets sp.1)

-- why a text of digits is rejected: its octets don't fit after those of the tag, or it has none
module _ (room : Room) (algorithm : ℕ) (hit text old : List ℕ) where
  pub head_lacks : room.fits < length old + (4 + length hit) → RefusesHost room algorithm hit text old ShortBuf
  head_lacks few = let size = host_size algorithm hit [] in inl (refl, (identity_octets algorithm hit [], ([], inl refl, refl), omega (arith, few, size)))

  pub digits_refused : (middle : List ℕ) (e : ErrorKind) → middle ≡ old ++ (length hit ∷ algorithm ∷ 0 ∷ 0 ∷ hit) → RefusesToken InBase64 room text middle e → RefusesHost room algorithm hit text old e
  digits_refused middle e is r = by r.why
    where
      short : e ≡ ShortBuf → RefusesHost room algorithm hit text old e
      short same =
          let x = r.exceeds same in
          let size = host_size algorithm hit x.0 in
          inl (same, (identity_octets algorithm hit x.0, (x.0, inr x.1, refl), omega (arith, x.2, size, ap length is, length-append old (length hit ∷ algorithm ∷ 0 ∷ 0 ∷ hit))))

      bad : PublicKeyTextReason text e → (e ≡ ShortBuf → ⊥) → RefusesHost room algorithm hit text old e
      bad why other = inr (why, λ octets sp. r.none other sp.0 sp.1.0)

      by : (e ≡ ShortBuf) ⊎ (((e ≡ IncompleteBase64) × DigitsContinue InBase64 text) ⊎ ((((e ≡ IllegalBase64) × (PaddedBefore base64 text → ⊥)) ⊎ ((e ≡ TrailingBase64) × PaddedBefore base64 text)) × (DigitsContinue InBase64 text → ⊥)))
          → RefusesHost room algorithm hit text old e
      by (inl same) = short same
      by (inr (inl ends)) =
          let is = ends.0 in
          let other : e ≡ ShortBuf → ⊥ = λ same. cc (is, same) in
          bad (inl (ends.0, ends.1, λ key sp. absurd (r.none other key sp))) other
      by (inr (inr (inl wrong, none))) = let is = wrong.0 in bad (inr (inl (inl wrong, none))) (λ same. cc (is, same))
      by (inr (inr (inr wrong, none))) = let is = wrong.0 in bad (inr (inl (inr wrong, none))) (λ same. cc (is, same))

  pub no_key : (key : List ℕ) → SpellsDigits base64 text key → length key ≡ 0 → RefusesHost room algorithm hit text old IncompleteBase64
  no_key key sp none =
      inr (
        inl (
          refl,
          ([], key, subst (λ z. SpellsDigits base64 z key) (sym (append-nil text)) sp),
          λ other spelled. spells_once base64 (known InBase64) text other key spelled sp ∙ is_none key none,
        ),
        λ octets other. (let same = ap length (spells_once base64 (known InBase64) text other.0 key other.1.0 sp) in omega (arith, same, none, other.1.1)),
      )

  pub long_key : (key : List ℕ) → SpellsDigits base64 text key → 65535 < length key → RefusesHost room algorithm hit text old LongKey
  long_key key sp long =
      inr (
        inr (inr (refl, (key, sp, long))),
        λ octets other. (let same = ap length (spells_once base64 (known InBase64) text other.0 key other.1.0 sp) in omega (arith, same, long, other.1.2)),
      )

  -- the length of the key is set before it
  pub host_set : (begun count : ℕ) (middle full new key : List ℕ) → begun ≡ length old → middle ≡ old ++ (length hit ∷ algorithm ∷ 0 ∷ 0 ∷ hit) → full ≡ middle ++ key → count ≡ length key → SetsCount (begun + 2) count full new
      → new ≡ old ++ identity_octets algorithm hit key
  host_set begun count middle full new key start is gained counted sets =
      let two : List ℕ = length hit ∷ algorithm ∷ [] in
      let split : full ≡ (old ++ two) ++ 0 ∷ 0 ∷ (hit ++ key) =
      gained ∙ ap (λ m. m ++ key) is ∙ append_assoc old (length hit ∷ algorithm ∷ 0 ∷ 0 ∷ hit) key ∙ sym (append_assoc old two (0 ∷ 0 ∷ (hit ++ key)))
      in
      let place : length (old ++ two) ≡ begun + 2 = omega (arith, length-append old two, start) in
      sets (old ++ two) (hit ++ key) 0 0 split place ∙ append_assoc old two (to_be_bytes w16 count ++ (hit ++ key)) ∙ ap (λ n. old ++ (two ++ (to_be_bytes w16 n ++ (hit ++ key)))) counted

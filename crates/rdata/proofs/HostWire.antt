-- The octets of host identities, and what they print as.
use Rattle.std.proofs.Common.{ℕ, zero, suc, false, ◌≡◌, ◌≢◌, ◌<◌, ◌≤◌, ◌+◌, ◌-◌, Option, Some, None, List, [], ◌∷◌, ◌++◌, length, take, drop, refl, sym, ap, subst, ◌∙◌, inl, inr, arith, append_assoc, length-append, take-append-drop, length-take-le, get_or}
use Rattle.std.proofs.Math.Seq.{take-append_seam, drop-append_seam}
use Rattle.std.proofs.lemmas.List.{take_at, drop_at, length-drop}
use Rattle.std.proofs.lemmas.List.Elements.{All-head, All-tail}
use Rattle.std.proofs.lemmas.Nat.{be_bytes_2, from_be_bytes-to_be_bytes_2}
use borrow.Rule.Slice.PartMut.{post_of}
use Rattle.std.specs.Fmt.{decimal}
use Rattle.std.specs.Int.{from_be_bytes, to_be_bytes, w16}
use Rattle.std.specs.List.{concat}
use Rattle.std.specs.Prelude.{slice_index}
use Rattle.dns_codec.specs.Base.{base64, encoded}
use Rattle.dns_octets.specs.Octets.{written_over, written_over_whole}
use Rattle.dns_lexer.specs.EntryTokens.{TokenSeen}
use Rattle.rdata_tokens.specs.Forms.{FindsWidth}
use Rattle.rdata_tokens.specs.NameSpelling.{IsOrigin, IsWireName}
use Rattle.rdata_tokens.specs.Spelled.{SpellsDigits}
use Rattle.rdata_tokens.specs.Spelling.{AreOctetValues}
use Rattle.rdata_tokens.specs.declared.kind.DigitsKind.TheVariants.{Base64 as InBase64}
use Rattle.rdata_tokens.proofs.FormLaws.{values_front, values_back}
use Rattle.rdata_tokens.proofs.NameFronts.{names_in_front}
use Rattle.rdata_tokens.proofs.Pieces.{rest_of}
use Rattle.rdata_tokens.proofs.Spelling.{known, printed_spells}
use Rattle.rdata_fields.specs.Fields.{field_form}
use Rattle.rdata_fields.specs.declared.field.Field.TheVariants.{Name as OfName}
use Rattle.rdata_fields.proofs.FormLaws.{fields_are_forms}
use Rattle.rdata_values.specs.Hex.{IsHex}
use Rattle.rdata_values.proofs.HexLaws.{is_hex}
use Rattle.rdata.specs.GatewayKeys.{labels_size, octet_form, plain_word}
use Rattle.rdata.specs.HeldForms.{held_form}
use Rattle.rdata.specs.HostIdentities.{IsHit, hit_form, identity_octets, IsPublicKey, public_key_form, server_form, host_identity_form, HasServersAt, servers_form}
use Rattle.rdata.specs.Rests.{ArePrinted}
use Rattle.rdata.specs.TokenForms.{AreParts, SpellOctets, printed_each}
use Rattle.rdata.proofs.GatewayLaws.{one_octet}
use Rattle.rdata.proofs.HeldRests.{IsShown, held_back}
use Rattle.rdata.proofs.HostLaws.{after_hit, after_algorithm, shown_hit, shown_algorithm, host_size}
use Rattle.rdata.proofs.PlacesBack.{IsBack, each_back, then_back, octet_back}
use Rattle.rdata.proofs.PrefixListLaws.{is_none}
use Rattle.rdata.proofs.Sizes.{name_sized}

-- ---- two octets of a list

-- a number is written over two octets
pub put_count : (old slice front back new : List ℕ) (a b at : ℕ) → slice ≡ old → old ≡ front ++ a ∷ b ∷ back → length front ≡ at → length new ≡ 2
    → written_over old (take at slice ++ (new ++ post_of at (at + 2 - at) slice)) ≡ front ++ (new ++ back)
put_count old slice front back new a b at is split start two =
    let all : slice ≡ front ++ a ∷ b ∷ back = is ∙ split in
    let count : at + 2 - at ≡ 2 = omega arith in
    let later : drop (at + 2 - at) (drop at slice) ≡ back = ap (λ n. drop n (drop at slice)) count ∙ ap (drop 2) (ap (drop at) all ∙ drop_at front (a ∷ b ∷ back) at start) in
    let before : take at slice ≡ front = ap (take at) all ∙ take_at front (a ∷ b ∷ back) at start in
    let whole : take at slice ++ (new ++ post_of at (at + 2 - at) slice) ≡ front ++ (new ++ back) = ap (λ x. take at slice ++ (new ++ x)) later ∙ ap (λ x. x ++ (new ++ back)) before in
    ap (written_over old) whole ∙ written_over_whole old (front ++ (new ++ back)) (omega (arith, ap length split, length-append front (a ∷ b ∷ back), length-append front (new ++ back), length-append new back, two))

-- ---- the servers after the key

-- the length of the key, of the octets
key_counted : (algorithm : ℕ) (hit key rest : List ℕ) → IsPublicKey key → from_be_bytes w16 (take 2 (drop 2 (identity_octets algorithm hit key ++ rest))) ≡ length key
key_counted algorithm hit key rest is = from_be_bytes-to_be_bytes_2 (length key) (omega (arith, is.2))

module _ (octets : List ℕ) where
  pub servers_place : (at : ℕ) → HasServersAt octets at → at ≡ 4 + slice_index octets 0 + from_be_bytes w16 (take 2 (drop 2 octets))
  servers_place at h =
      let hits : slice_index octets 0 ≡ length h.hit = ap (λ o. slice_index o 0) h.split in
      let keys : from_be_bytes w16 (take 2 (drop 2 octets)) ≡ length h.key = ap (λ o. from_be_bytes w16 (take 2 (drop 2 o))) h.split ∙ key_counted h.algorithm h.hit h.key h.servers h.is_key in
      omega (arith, h.place, hits, keys)

  pub servers_size : (at : ℕ) → HasServersAt octets at → (at ≤ length octets) × (0 < slice_index octets 0) × (0 < from_be_bytes w16 (take 2 (drop 2 octets)))
  servers_size at h =
      let hits : slice_index octets 0 ≡ length h.hit = ap (λ o. slice_index o 0) h.split in
      let keys : from_be_bytes w16 (take 2 (drop 2 octets)) ≡ length h.key = ap (λ o. from_be_bytes w16 (take 2 (drop 2 o))) h.split ∙ key_counted h.algorithm h.hit h.key h.servers h.is_key in
      let sum = ap length h.split ∙ length-append (identity_octets h.algorithm h.hit h.key) h.servers in
      let size = host_size h.algorithm h.hit h.key in (
        omega (arith, h.place, sum, size),
        omega (arith, hits, h.is_hit.1),
        omega (arith, keys, h.is_key.1),
      )

  pub servers_are : (at : ℕ) (h : HasServersAt octets at) → drop at octets ≡ h.servers
  servers_are at h =
      let size = host_size h.algorithm h.hit h.key in
      ap (drop at) h.split ∙ drop_at (identity_octets h.algorithm h.hit h.key) h.servers at (omega (arith, size, h.place))

  pub host_of : (at : ℕ) → HasServersAt octets at → AreParts IsWireName (drop at octets) → (host_identity_form None).is_wire octets
  host_of at h names = (
    h.algorithm ∷ [],
    h.is_octet,
    (
      h.hit,
      h.is_hit,
      record { front = identity_octets h.algorithm h.hit h.key; back = h.servers; octets_are = h.split; is_wire = (h.key, h.is_key, refl); rest = subst (AreParts IsWireName) (servers_are at h) names },
    ),
  )

  pub servers_there : (host_identity_form None).is_wire octets → (at : ℕ) × HasServersAt octets at × AreParts IsWireName (drop at octets)
  servers_there is =
      let own : List ℕ = is.0 in
      let algorithm : ℕ = slice_index own 0 in
      let hit : List ℕ = is.2.0 in
      let last = is.2.2 in
      let key : List ℕ = last.is_wire.0 in
      let at : ℕ = 4 + length hit + length key in
      let whole : octets ≡ identity_octets algorithm hit key ++ last.back = last.octets_are ∙ ap (λ o. o ++ last.back) last.is_wire.2 in
      let there : HasServersAt octets at =
      record { algorithm = algorithm; hit = hit; key = key; servers = last.back; is_octet = subst octet_form.is_wire (one_octet own is.1.0) is.1; is_hit = is.2.1; is_key = last.is_wire.1; split = whole; place = refl }
      in
      (at, there, subst (AreParts IsWireName) (sym (servers_are at there)) last.rest)

-- ---- what octets print as

pub hit_shown : (algorithm : ℕ) → IsShown shown_hit hit_form (λ hit. after_hit None algorithm hit)
hit_shown algorithm hit octets is later =
    let key : List ℕ = later.is_wire.0 in
    let whole : octets ≡ identity_octets algorithm hit key ++ later.back = later.octets_are ∙ ap (λ o. o ++ later.back) later.is_wire.2 in
    ap shown_hit whole ∙ ap (take (length hit)) (append_assoc hit key later.back) ∙ take-append_seam hit (key ++ later.back)

pub algorithm_shown : IsShown shown_algorithm octet_form (λ algorithm. after_algorithm None (slice_index algorithm 0))
algorithm_shown own octets is later =
    let last = later.2 in
    let key : List ℕ = last.is_wire.0 in
    let whole : octets ≡ identity_octets (slice_index own 0) later.0 key ++ last.back = last.octets_are ∙ ap (λ o. o ++ last.back) last.is_wire.2 in
    ap shown_algorithm whole ∙ sym (one_octet own is.0)

hit_back : (octets : List ℕ) (t : TokenSeen) → hit_form.is_wire octets → t.is_quoted ≡ (hit_form.printed octets).is_quoted → t.text ≡ (hit_form.printed octets).text → hit_form.spells t octets
hit_back octets t is quoted text = (quoted, subst (λ x. IsHex x octets) (sym text) (is_hex octets is.0), is.1, is.2)

-- the key, of the octets up to its end
pub key_shown : (algorithm : ℕ) (hit key : List ℕ) → drop (4 + slice_index (identity_octets algorithm hit key) 0) (identity_octets algorithm hit key) ≡ key
key_shown algorithm hit key =
    let four : 4 + length hit ≡ suc (suc (suc (suc (length hit)))) = omega arith in
    ap (λ n. drop n (identity_octets algorithm hit key)) four ∙ drop-append_seam hit key

pub key_sized : (algorithm : ℕ) (hit front more : List ℕ) → (public_key_form algorithm hit).is_wire front → (public_key_form algorithm hit).width (front ++ more) ≡ length front
key_sized algorithm hit front more is =
    let key : List ℕ = is.0 in
    let counted = key_counted algorithm hit key more is.1 in
    let size = host_size algorithm hit key in
    subst (λ o. (public_key_form algorithm hit).width (o ++ more) ≡ length o) (sym is.2) (omega (arith, counted, size))

key_back : (algorithm : ℕ) (hit : List ℕ) → IsBack (public_key_form algorithm hit) (public_key_form algorithm hit).spells
key_back algorithm hit = record {
  back = λ octets t is quoted text. (
      let key : List ℕ = is.0 in
      let shown : t.text ≡ encoded base64 key = text ∙ ap (λ o. encoded base64 (drop (4 + slice_index o 0) o)) is.2 ∙ ap (encoded base64) (key_shown algorithm hit key) in
      (quoted, (key, (subst (λ x. SpellsDigits base64 x key) (sym shown) (printed_spells base64 (known InBase64) key is.1.0), is.1.1, is.1.2), is.2))
      );
  sized = λ front more is. key_sized algorithm hit front more is;
}

pub no_name : IsWireName [] → ⊥
no_name is = let long = name_sized [] (1 ∷ []) is in omega (arith, long)

module _ (origin : Option (List (List ℕ))) (known_origin : IsOrigin origin) where
  server_back : IsBack (server_form origin) (server_form origin).spells
  server_back = record {
    back = λ octets t is quoted text. (
        let law : (field_form origin OfName).spells false ((field_form origin OfName).printed octets) octets = (fields_are_forms origin known_origin OfName).back octets is in
        subst (λ q. (field_form origin OfName).spells q t.text octets) (sym quoted) (subst (λ x. (field_form origin OfName).spells false x octets) (sym text) law)
        );
    sized = λ front more is. name_sized front more is;
  }

  same_printed : (count : ℕ) (octets : List ℕ) → printed_each (server_form None) count octets ≡ printed_each (server_form origin) count octets
  same_printed zero octets = refl
  same_printed (suc count) [] = refl
  same_printed (suc count) (o ∷ os) = ap (λ l. (server_form None).printed (take (labels_size (length (o ∷ os)) (o ∷ os)) (o ∷ os)) ∷ l) (same_printed count (drop (labels_size (length (o ∷ os)) (o ∷ os)) (o ∷ os)))

  servers_back : (octets : List ℕ) (tokens : List TokenSeen) → (servers_form None).is_wire octets → ArePrinted ((servers_form None).printed octets) tokens → (servers_form origin).spells tokens octets
  servers_back octets tokens is p = each_back (server_form origin) server_back no_name octets tokens is (subst (λ l. ArePrinted l tokens) (same_printed (length octets) octets) p)

  after_hit_back : (algorithm : ℕ) (hit octets : List ℕ) (tokens : List TokenSeen) → (after_hit None algorithm hit).is_wire octets → ArePrinted ((after_hit None algorithm hit).printed octets) tokens → (after_hit origin algorithm hit).spells tokens octets
  after_hit_back algorithm hit octets tokens is p =
      then_back (public_key_form algorithm hit) (public_key_form algorithm hit) (key_back algorithm hit) (λ key. servers_form None) (λ key. servers_form origin) (λ front. servers_back) octets tokens is p

  after_algorithm_back : (algorithm : ℕ) (octets : List ℕ) (tokens : List TokenSeen) → (after_algorithm None algorithm).is_wire octets → ArePrinted ((after_algorithm None algorithm).printed octets) tokens → (after_algorithm origin algorithm).spells tokens octets
  after_algorithm_back algorithm octets tokens is p =
      held_back shown_hit hit_form (λ hit. after_hit None algorithm hit) (hit_shown algorithm) hit_back (λ hit. after_hit origin algorithm hit) (after_hit_back algorithm) octets tokens is p

  pub host_back : (octets : List ℕ) (tokens : List TokenSeen) → (host_identity_form None).is_wire octets → ArePrinted ((host_identity_form None).printed octets) tokens → (host_identity_form origin).spells tokens octets
  host_back octets tokens is p =
      held_back shown_algorithm octet_form (λ algorithm. after_algorithm None (slice_index algorithm 0)) algorithm_shown octet_back.back (λ algorithm. after_algorithm origin (slice_index algorithm 0)) (λ algorithm. after_algorithm_back (slice_index algorithm 0)) octets tokens is p

-- ---- names, one after another

-- the rest is names exactly if all is
abbrev pub SameNames : List ℕ → List ℕ → Type 0
SameNames octets left = (AreParts IsWireName octets → AreParts IsWireName left) × (AreParts IsWireName left → AreParts IsWireName octets)

pub names_begin : (octets : List ℕ) → SameNames octets octets
names_begin octets = (λ h. h, λ h. h)

-- a name of this width is found at the start of octets
module _ (left : List ℕ) (width : ℕ) (found : FindsWidth IsWireName left (Some width)) where
  one_name : (form rest : List ℕ) → IsWireName form → left ≡ form ++ rest → (form ≡ take width left) × (rest ≡ drop width left)
  one_name form rest is split =
      let same : Some width ≡ Some (length form) = names_in_front.width form rest (Some width) is (subst (λ o. FindsWidth IsWireName o (Some width)) split found) in
      let long : width ≡ length form = cc same in (
        sym (ap (λ n. take n left) long ∙ ap (take (length form)) split ∙ take-append_seam form rest),
        sym (ap (λ n. drop n left) long ∙ ap (drop (length form)) split ∙ drop-append_seam form rest),
      )

  pub after_name : left ≢ [] → AreParts IsWireName left → AreParts IsWireName (drop width left)
  after_name some ([], each, whole) = absurd (some whole)
  after_name some (name ∷ names, each, whole) = (names, each.1, sym (one_name name (concat names) each.0 whole).1)

  before_names : AreParts IsWireName (drop width left) → AreParts IsWireName left
  before_names (names, each, whole) = (take width left ∷ names, (found.1, each), sym (take-append-drop width left) ∙ ap (λ o. take width left ++ o) whole)

  pub names_on : (octets new : List ℕ) → SameNames octets left → left ≢ [] → new ≡ take (length left - width) (drop width left) → SameNames octets new
  names_on octets new h some cut =
      let is : new ≡ drop width left = cut ∙ rest_of width left in
      (λ all. subst (AreParts IsWireName) (sym is) (after_name some (h.0 all)), λ rest. h.1 (before_names (subst (AreParts IsWireName) is rest)))

pub no_names : (octets left : List ℕ) → SameNames octets left → left ≢ [] → FindsWidth IsWireName left None → AreParts IsWireName octets → ⊥
no_names octets left h some none all = by (h.0 all)
  where
    by : AreParts IsWireName left → ⊥
    by ([], each, whole) = some whole
    by (name ∷ names, each, whole) = none name (concat names) each.0 whole

pub names_end : (octets left : List ℕ) → SameNames octets left → length left ≡ 0 → AreParts IsWireName octets
names_end octets left h none = h.1 ([], tt, is_none left none)

-- ---- printing

no_width : (octets : List ℕ) (width : ℕ) → FindsWidth IsWireName octets (Some width) → 0 < width
no_width octets zero found = absurd (no_name found.1)
no_width octets (suc width) found = omega arith

pub no_more_servers : (count : ℕ) → printed_each (server_form None) count [] ≡ []
no_more_servers zero = refl
no_more_servers (suc count) = refl

-- the next name is printed, and those after it are left
pub record NextServer (count : ℕ) (octets : List ℕ) (width : ℕ) : Type 0 where
  pub fewer : ℕ
  pub enough : length (drop width octets) ≤ fewer
  pub is : printed_each (server_form None) count octets ≡ (server_form None).printed (take width octets) ∷ printed_each (server_form None) fewer (drop width octets)

pub next_server : (count : ℕ) (octets : List ℕ) (width : ℕ) → 0 < length octets → length octets ≤ count → FindsWidth IsWireName octets (Some width) → NextServer count octets width
next_server zero octets width some few found = absurd (omega (arith, some, few))
next_server (suc count) [] width some few found = absurd (omega (arith, some))
next_server (suc count) (o ∷ os) width some few found =
    let all : List ℕ = o ∷ os in
    let size : labels_size (length all) all ≡ width =
    ap (λ x. labels_size (length x) x) (sym (take-append-drop width all)) ∙ name_sized (take width all) (drop width all) found.1 ∙ length-take-le width all found.0
    in
    record {
      fewer = count;
      enough = omega (arith, few, found.0, no_width all width found, length-drop width all);
      is = ap (λ n. (server_form None).printed (take n all) ∷ printed_each (server_form None) count (drop n all)) size;
    }

-- the tokens, if the tag, the key and the servers are cut off
pub host_tokens : (octets : List ℕ) (at start : ℕ) → HasServersAt octets at → start ≡ 4 + slice_index octets 0
    → (host_identity_form None).printed octets ≡
    plain_word (decimal (slice_index octets 1)) ∷ hit_form.printed (take (start - 4) (drop 4 octets)) ∷ plain_word (encoded base64 (take (at - start) (drop start octets)))
    ∷ (servers_form None).printed (take (length octets - at) (drop at octets))
host_tokens octets at start h is =
    let front : List ℕ = identity_octets h.algorithm h.hit h.key in
    let all : List ℕ = front ++ h.servers in
    let size : length front ≡ at = host_size h.algorithm h.hit h.key ∙ sym h.place in
    let hits : slice_index octets 0 ≡ length h.hit = ap (λ o. slice_index o 0) h.split in
    let short : start - 4 ≡ length h.hit = omega (arith, is, hits) in
    let own : slice_index octets 0 ≡ start - 4 = omega (arith, is) in
    let tag : take (start - 4) (drop 4 octets) ≡ h.hit =
    ap (λ n. take n (drop 4 octets)) short ∙ ap (λ o. take (length h.hit) (drop 4 o)) h.split ∙ ap (take (length h.hit)) (append_assoc h.hit h.key h.servers) ∙ take-append_seam h.hit (h.key ++ h.servers)
    in
    let begun : start ≡ suc (suc (suc (suc (length h.hit)))) = omega (arith, is, hits) in
    let later : drop start octets ≡ h.key ++ h.servers = ap (λ n. drop n octets) begun ∙ ap (drop (suc (suc (suc (suc (length h.hit)))))) h.split ∙ ap (drop (length h.hit)) (append_assoc h.hit h.key h.servers) ∙ drop-append_seam h.hit (h.key ++ h.servers) in
    let count : at - start ≡ length h.key = omega (arith, h.place, begun) in
    let key : take (at - start) (drop start octets) ≡ h.key = ap (λ n. take n (drop start octets)) count ∙ ap (take (length h.key)) later ∙ take-append_seam h.key h.servers in
    let servers : take (length octets - at) (drop at octets) ≡ h.servers = rest_of at octets ∙ servers_are octets at h in
    let width : (public_key_form h.algorithm h.hit).width octets ≡ length front = ap (public_key_form h.algorithm h.hit).width h.split ∙ key_sized h.algorithm h.hit front h.servers (h.key, h.is_key, refl) in
    let cut : take ((public_key_form h.algorithm h.hit).width octets) octets ≡ front = ap (λ n. take n octets) width ∙ ap (take (length front)) h.split ∙ take-append_seam front h.servers in
    let rest : drop ((public_key_form h.algorithm h.hit).width octets) octets ≡ h.servers = ap (λ n. drop n octets) width ∙ ap (drop (length front)) h.split ∙ drop-append_seam front h.servers in
    ap (λ n. plain_word (decimal (slice_index octets 1)) ∷ hit_form.printed (take n (drop 4 octets)) ∷ (after_hit None (slice_index octets 1) (take n (drop 4 octets))).printed octets) own
    ∙ ap (λ o. plain_word (decimal (slice_index octets 1)) ∷ hit_form.printed (take (start - 4) (drop 4 octets)) ∷ plain_word (encoded base64 (drop (4 + slice_index o 0) o)) ∷ (servers_form None).printed (drop ((public_key_form h.algorithm h.hit).width octets) octets)) cut
    ∙ ap (λ k. plain_word (decimal (slice_index octets 1)) ∷ hit_form.printed (take (start - 4) (drop 4 octets)) ∷ plain_word (encoded base64 k) ∷ (servers_form None).printed (drop ((public_key_form h.algorithm h.hit).width octets) octets)) (key_shown h.algorithm h.hit h.key ∙ sym key)
    ∙ ap (λ r. plain_word (decimal (slice_index octets 1)) ∷ hit_form.printed (take (start - 4) (drop 4 octets)) ∷ plain_word (encoded base64 (take (at - start) (drop start octets))) ∷ (servers_form None).printed r) (rest ∙ sym servers)

-- ---- octets of a host identity

small_at : (bs : List ℕ) → AreOctetValues bs → (i : ℕ) → get_or bs i 0 < 256
small_at [] all i = omega arith
small_at (b ∷ bs) all zero = All-head (λ o. o < 256) b bs all
small_at (b ∷ bs) all (suc i) = small_at bs (All-tail (λ o. o < 256) b bs all) i

-- lengths of a tag and a key that the octets after them have
module _ (a b c d : ℕ) (rest : List ℕ) (values : AreOctetValues (a ∷ b ∷ c ∷ d ∷ rest)) (count : ℕ) (counted : count ≡ from_be_bytes w16 (c ∷ d ∷ [])) (some : 0 < a) (some_key : 0 < count) (fits : a + count ≤ length rest) where
  pub found_servers : HasServersAt (a ∷ b ∷ c ∷ d ∷ rest) (4 + a + count)
  found_servers =
      let tag : List ℕ = take a rest in
      let tail : List ℕ = drop a rest in
      let key : List ℕ = take count tail in
      let servers : List ℕ = drop count tail in
      let long : length tag ≡ a = length-take-le a rest (omega (arith, fits)) in
      let left : length tail ≡ length rest - a = length-drop a rest in
      let size : length key ≡ count = length-take-le count tail (omega (arith, left, fits)) in
      let after_a : AreOctetValues (b ∷ c ∷ d ∷ rest) = All-tail (λ o. o < 256) a (b ∷ c ∷ d ∷ rest) values in
      let after_b : AreOctetValues (c ∷ d ∷ rest) = All-tail (λ o. o < 256) b (c ∷ d ∷ rest) after_a in
      let after_c : AreOctetValues (d ∷ rest) = All-tail (λ o. o < 256) c (d ∷ rest) after_b in
      let later : AreOctetValues rest = All-tail (λ o. o < 256) d rest after_c in
      let a_small : a < 256 = All-head (λ o. o < 256) a (b ∷ c ∷ d ∷ rest) values in
      let c_small : c < 256 = All-head (λ o. o < 256) c (d ∷ rest) after_b in
      let d_small : d < 256 = All-head (λ o. o < 256) d rest after_c in
      let bytes : to_be_bytes w16 (length key) ≡ c ∷ d ∷ [] = be_bytes_2 (c ∷ d ∷ []) (length key) refl (small_at (c ∷ d ∷ []) (values_front (c ∷ d ∷ []) rest after_b)) (size ∙ counted) in
      let rest_is : rest ≡ (tag ++ key) ++ servers = sym (take-append-drop a rest) ∙ ap (λ t. tag ++ t) (sym (take-append-drop count tail)) ∙ sym (append_assoc tag key servers) in
      let parts : AreOctetValues (tag ++ tail) = subst AreOctetValues (sym (take-append-drop a rest)) later in
      let ends : AreOctetValues (key ++ servers) = subst AreOctetValues (sym (take-append-drop count tail)) (values_back tag tail parts) in
      record {
        algorithm = b;
        hit = tag;
        key = key;
        servers = servers;
        is_octet = (refl, values_front (b ∷ []) (c ∷ d ∷ rest) after_a);
        is_hit = (values_front tag tail parts, omega (arith, long, some), omega (arith, long, a_small));
        is_key = (values_front key servers ends, omega (arith, size, some_key), omega (arith, size, counted, c_small, d_small));
        split = ap (λ n. n ∷ b ∷ c ∷ d ∷ rest) (sym long) ∙ ap (λ r. length tag ∷ b ∷ c ∷ d ∷ r) rest_is ∙ ap (λ bs. length tag ∷ b ∷ ((bs ++ (tag ++ key)) ++ servers)) (sym bytes);
        place = omega (arith, long, size);
      }

pub four_first : (octets : List ℕ) → 4 ≤ length octets → octets ≡ slice_index octets 0 ∷ slice_index octets 1 ∷ slice_index octets 2 ∷ slice_index octets 3 ∷ drop 4 octets
four_first [] few = absurd (omega (arith, few))
four_first (a ∷ []) few = absurd (omega (arith, few))
four_first (a ∷ b ∷ []) few = absurd (omega (arith, few))
four_first (a ∷ b ∷ c ∷ []) few = absurd (omega (arith, few))
four_first (a ∷ b ∷ c ∷ d ∷ octets) few = refl

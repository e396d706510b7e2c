-- A record is passed: whatever is read of it, it leaves one state.
use Rattle.std.proofs.Common.{inl, inr, ◌⊎◌, ℕ, ◌≡◌, ◌≢◌, Bool, true, false, List, [], ◌∷◌, ◌++◌, Option, Some, None, Result, Ok, Err, refl, sym, subst, ap, ◌∙◌, append-nil, true≢false}
use Rattle.std.specs.Prelude.{◌||◌, is_some, slice_get}
use Rattle.dns_octets.specs.Room.{Room}
use Rattle.dns_lexer.specs.EntryTokens.{TokenSeen}
use Rattle.rdata_fields.specs.declared.record_error.RecordError.{RecordError}
use Rattle.zone_reader.specs.Directives.{directive_of, first_directive}
use Rattle.zone_reader.specs.EntryMeanings.{EntryMeaning, EntryMeans, FirstTokenMeans, says_record}
use Rattle.zone_reader.specs.EntryReading.{ReadsAfterHeader, ReadsDataAfterHeader, ReadsMeaning, ReadsZoneEntry, declared_by_entry, explicit_ttl_of, minimum_of_record, owner_of_record, record_with, ttl_of_header}
use Rattle.zone_reader.specs.EntrySteps.{owner_token, tokens_after_owner}
use Rattle.std.proofs.lemmas.Option.{none-some}
use Rattle.zone_reader.specs.HeaderWords.{FindsWord, TokenIsClass, TokenIsTtl}
use Rattle.zone_reader.specs.Headers.{EndsHead, IsOptionalWord, NoneNext, ParsesHeader, ParsesTtlAndClass}
use Rattle.zone_reader.specs.Learning.{ParsesName, Updates, chosen_ttl}
use Rattle.zone_reader.specs.Past.{NamedBy, StateAfter, known_name}
use Rattle.zone_reader.specs.declared.entry.ParsedEntry.{ParsedEntry}
use Rattle.zone_reader.specs.declared.header.HeaderError.{HeaderError}
use Rattle.zone_reader.specs.declared.header.RecordHeader.{RecordHeader}
use Rattle.zone_reader.specs.declared.known.NameState.{NameState}
use Rattle.zone_reader.specs.declared.known.NameState.TheVariants.{Name, Rejected}
use Rattle.zone_reader.specs.declared.state.State.{State}
use Rattle.zone_reader.proofs.Learned.{owner_learned}
use Rattle.zone_reader.proofs.PastStates.{known_once, starts}
use Rattle.zone_reader.proofs.WordLemmas.{apart, ttl_once}
use Rattle.zone_parts.specs.Passing.{FindsNextWord, FindsTtl, LeavesAlways, NamesNext, begins_directive, knows_ttl}

none_is : {X : Type 0} (o : Option X) → is_some o ≡ false → o ≡ None
none_is None h = refl
none_is (Some x) h = absurd (true≢false h)

-- ---- names

pub named_next : (origin : Option (List (List ℕ))) (end : ℕ) (tokens left : List TokenSeen) (labels : List (List ℕ)) → ParsesName origin end tokens (Ok labels) left → NamesNext origin tokens (Name labels)
named_next origin end tokens left labels h = λ some. subst (λ l. NamedBy origin (slice_get l 0) (Name labels)) (sym h.1) h.2

pub rejected_next : (origin : Option (List (List ℕ))) (end : ℕ) (tokens left : List TokenSeen) (e : RecordError) → ParsesName origin end tokens (Err e) left → NamesNext origin tokens Rejected
rejected_next origin end tokens left e h = λ some. h.3

pub owner_next : (before : State) (tokens : List TokenSeen) (name : NameState) → NamesNext (known_name before.origin) tokens name → tokens ≢ [] → Updates (owner_of_record (owner_token false tokens)) before (record before { owner = name })
owner_next before [] name h some = absurd (some refl)
owner_next before (t ∷ ts) name h some = owner_learned before (Some t) name (h some)

-- ---- the next token

pub next_found : (Says : TokenSeen → ℕ → Type 0) (tokens : List TokenSeen) (t : TokenSeen) (found : Option ℕ) → Some t ≡ slice_get tokens 0 → FindsWord Says t found → FindsNextWord Says tokens found
next_found Says [] t found e h = absurd (none-some t (sym e))
next_found Says (u ∷ us) t found e h = let same : u ≡ t = cc in subst (λ x. FindsWord Says x found) (sym same) h

-- ---- an entry that begins with no directive is a record

-- the TTL, class and type, and what is left after them
abbrev IsRecordSaid : Bool → ℕ → List TokenSeen → EntryMeaning → Type 0
IsRecordSaid blank end tokens m = (header : Result RecordHeader HeaderError) × (left : List TokenSeen) × ParsesHeader end (tokens_after_owner blank tokens) header left × (m ≡ says_record (owner_token blank tokens) header left)

record_said : (blank : Bool) (end : ℕ) (tokens : List TokenSeen) (m : EntryMeaning) → tokens ≢ [] → begins_directive blank tokens ≡ false → EntryMeans blank end tokens m → IsRecordSaid blank end tokens m
record_said blank end [] m some plain h = absurd (some refl)
record_said true end (t ∷ ts) m some plain h = h
record_said false end (t ∷ ts) m some plain h = subst (λ d. FirstTokenMeans d end t ts m) (none_is (directive_of t) plain) h

-- ---- the TTL of a record is the one that is found

no_next : (rest : List TokenSeen) (found : Option ℕ) → NoneNext TokenIsTtl rest → FindsNextWord TokenIsTtl rest found → found ≡ None
no_next [] found none f = f
no_next (t ∷ ts) None none f = refl
no_next (t ∷ ts) (Some n) none f = absurd (none n f)

next_is : (t : TokenSeen) (n : ℕ) (found : Option ℕ) → TokenIsTtl t n → FindsWord TokenIsTtl t found → Some n ≡ found
next_is t n None p f = absurd (f n p)
next_is t n (Some k) p f = ap Some (ttl_once t n k p f)

first_ttl : (t : TokenSeen) (ts : List TokenSeen) (a found : Option ℕ) → IsOptionalWord TokenIsTtl (t ∷ []) a → FindsTtl (t ∷ ts) found → a ≡ found
first_ttl t ts None found p f = absurd p
first_ttl t ts (Some n) found p (inl f) = ap Some (ttl_once t n f.0 p f.1) ∙ sym f.2
first_ttl t ts (Some n) found p (inr (inl f)) = absurd (f.0 n p)
first_ttl t ts (Some n) found p (inr (inr f)) = absurd (f.0 n p)

none_found : (rest : List TokenSeen) (a b found : Option ℕ) → a ≡ None → b ≡ None → EndsHead TokenIsTtl TokenIsClass a b rest → FindsTtl rest found → a ≡ found
none_found [] a b found p q ends (inl f) = absurd (none-some f.0 (sym f.1))
none_found (t ∷ ts) a b found p q ends (inl f) = absurd (ends.0 p f.0 f.1)
none_found rest a b found p q ends (inr (inl f)) = p ∙ sym f.2
none_found [] a b found p q ends (inr (inr f)) = absurd f.1
none_found (t ∷ ts) a b found p q ends (inr (inr f)) = absurd (ends.1 q f.1.0 f.1.1)

after_class : (u : TokenSeen) (rest : List TokenSeen) (a b found : Option ℕ) → a ≡ None → IsOptionalWord TokenIsClass (u ∷ []) b → EndsHead TokenIsTtl TokenIsClass a b rest → FindsTtl (u ∷ rest) found → a ≡ found
after_class u rest a None found p q ends f = absurd q
after_class u rest a (Some m) found p q ends (inl f) = absurd (apart.ttl_and_class u f.0 m f.1 q)
after_class u rest a (Some m) found p q ends (inr (inl f)) = absurd (f.1 (m, q))
after_class u rest a (Some m) found p q ends (inr (inr f)) = p ∙ sym (no_next rest found (ends.0 p) f.2)

class_then_ttl : (u t : TokenSeen) (rest : List TokenSeen) (a b found : Option ℕ) → IsOptionalWord TokenIsClass (u ∷ []) b → IsOptionalWord TokenIsTtl (t ∷ []) a → FindsTtl (u ∷ t ∷ rest) found → a ≡ found
class_then_ttl u t rest a None found q p f = absurd q
class_then_ttl u t rest None (Some m) found q p f = absurd p
class_then_ttl u t rest (Some n) (Some m) found q p (inl f) = absurd (apart.ttl_and_class u f.0 m f.1 q)
class_then_ttl u t rest (Some n) (Some m) found q p (inr (inl f)) = absurd (f.1 (m, q))
class_then_ttl u t rest (Some n) (Some m) found q p (inr (inr f)) = next_is t n found p f.2

ttl_by : (front back rest : List TokenSeen) (a b found : Option ℕ) → (IsOptionalWord TokenIsTtl front a × IsOptionalWord TokenIsClass back b) ⊎ (IsOptionalWord TokenIsClass front b × IsOptionalWord TokenIsTtl back a) → EndsHead TokenIsTtl TokenIsClass a b rest
    → FindsTtl ((front ++ back) ++ rest) found → a ≡ found
ttl_by [] [] rest a b found (inl h) ends f = none_found rest a b found h.0 h.1 ends f
ttl_by [] [] rest a b found (inr h) ends f = none_found rest a b found h.1 h.0 ends f
ttl_by [] (u ∷ []) rest a b found (inl h) ends f = after_class u rest a b found h.0 h.1 ends f
ttl_by [] (t ∷ []) rest a b found (inr h) ends f = first_ttl t rest a found h.1 f
ttl_by (t ∷ []) [] rest a b found (inl h) ends f = first_ttl t rest a found h.0 f
ttl_by (u ∷ []) [] rest a b found (inr h) ends f = after_class u rest a b found h.1 h.0 ends f
ttl_by (t ∷ []) (u ∷ []) rest a b found (inl h) ends f = first_ttl t (u ∷ rest) a found h.0 f
ttl_by (u ∷ []) (t ∷ []) rest a b found (inr h) ends f = class_then_ttl u t rest a b found h.0 h.1 f
ttl_by front (x ∷ y ∷ back) rest a b found (inl h) ends f = absurd h.1
ttl_by front (x ∷ y ∷ back) rest a b found (inr h) ends f = absurd h.1
ttl_by (x ∷ y ∷ front) back rest a b found (inl h) ends f = absurd h.0
ttl_by (x ∷ y ∷ front) back rest a b found (inr h) ends f = absurd h.0

head_ttl : (tokens rest : List TokenSeen) (a b found : Option ℕ) → ParsesTtlAndClass TokenIsTtl TokenIsClass tokens a b rest → FindsTtl tokens found → a ≡ found
head_ttl tokens rest a b found h f = ttl_by h.is.front h.is.back rest a b found h.is.order h.ends (subst (λ l. FindsTtl l found) (h.whole ∙ ap (λ l. l ++ rest) h.is.whole) f)

header_ttl : (end : ℕ) (tokens left : List TokenSeen) (header : Result RecordHeader HeaderError) (found : Option ℕ) → ParsesHeader end tokens header left → FindsTtl tokens found → ttl_of_header header ≡ found
header_ttl end tokens left (Ok w) found h f = head_ttl tokens (h.0 ∷ left) w.ttl w.class found h.1 f
header_ttl end tokens left (Err r) found h f = head_ttl tokens left r.ttl r.class found h.0 f

-- ---- no minimum is used where a TTL is known

module _ (before : State) (room : Room) (at end : ℕ) (old new : List ℕ) (result : Result ParsedEntry RecordError) where
  chosen_quiet : (data_at : ℕ) (w : RecordHeader) (own default last minimum : Option ℕ) → (is_some default || is_some last) ≡ true → minimum_of_record (record_with before at data_at end w (chosen_ttl own default last minimum)) ≡ []
  chosen_quiet data_at w (Some ttl) default last minimum knows = refl
  chosen_quiet data_at w None (Some ttl) last minimum knows = refl
  chosen_quiet data_at w None None (Some ttl) minimum knows = refl
  chosen_quiet data_at w None None None minimum knows = absurd (true≢false (sym knows))

  data_quiet : (data_at : ℕ) (w : RecordHeader) (r : Result (Unit {0}) RecordError) → knows_ttl before ≡ true → ReadsDataAfterHeader before at data_at end w old r new result → minimum_of_record result ≡ []
  data_quiet data_at w (Err e) knows h = ap minimum_of_record h
  data_quiet data_at w (Ok u) knows h = ap minimum_of_record h.2.2 ∙ chosen_quiet data_at w w.ttl before.default_ttl before.last_ttl h.2.0 knows

  record_quiet : (first : Result (Unit {0}) RecordError) (words : Result RecordHeader HeaderError) (tokens : List TokenSeen) → knows_ttl before ≡ true → ReadsAfterHeader before room at end first words tokens old result new → minimum_of_record result ≡ []
  record_quiet (Err r) words tokens knows h = ap minimum_of_record h.0
  record_quiet (Ok u) (Err r) tokens knows h = ap minimum_of_record h.0
  record_quiet (Ok u) (Ok w) tokens knows h = data_quiet _ w h.0 knows h.3

-- ---- one state is left

-- a record leaves its owner and its TTL, whatever its RDATA is
pub read_leaves : (blank : Bool) (end : ℕ) (tokens : List TokenSeen) (ttl : Option ℕ) (before : State) → tokens ≢ [] → begins_directive blank tokens ≡ false → knows_ttl before ≡ true → FindsTtl (tokens_after_owner blank tokens) ttl
    → (room : Room) (old new : List ℕ) (result : Result ParsedEntry RecordError) (other : State) → ReadsZoneEntry room blank end tokens before old result other new
    → StateAfter before (owner_of_record (owner_token blank tokens) ++ (explicit_ttl_of ttl ++ [])) other
read_leaves blank end tokens ttl before some plain knows finds = λ room old new result other h.
    let said : IsRecordSaid blank end tokens h.meaning = record_said blank end tokens h.meaning some plain h.says in
    let header = said.0 in
    let m : EntryMeaning = says_record (owner_token blank tokens) header said.1 in
    let first = owner_of_record (owner_token blank tokens) in
    let reads : ReadsMeaning before room end tokens m old result other.owner new = subst (λ x. ReadsMeaning before room end tokens x old result other.owner new) said.3 h.reads in
    let updates : Updates (declared_by_entry (first_directive blank tokens) m result) before other = subst (λ x. Updates (declared_by_entry (first_directive blank tokens) x result) before other) said.3 h.learns in
    let quiet : minimum_of_record result ≡ [] = record_quiet before room _ end old new result reads.0 header said.1 knows reads.2 in
    let there : StateAfter before (first ++ (explicit_ttl_of (ttl_of_header header) ++ [])) other = subst (λ l. StateAfter before (first ++ (explicit_ttl_of (ttl_of_header header) ++ l)) other) quiet (updates before [] (starts before)) in
    subst (λ t. StateAfter before (first ++ (explicit_ttl_of t ++ [])) other) (header_ttl end (tokens_after_owner blank tokens) said.1 header ttl said.2 finds) there

pub leaves_always : (blank : Bool) (end : ℕ) (tokens : List TokenSeen) (ttl : Option ℕ) (before middle after : State) → tokens ≢ [] → begins_directive blank tokens ≡ false → knows_ttl before ≡ true
    → Updates (owner_of_record (owner_token blank tokens)) before middle → FindsTtl (tokens_after_owner blank tokens) ttl → Updates (explicit_ttl_of ttl) middle after → LeavesAlways blank end tokens before after
leaves_always blank end tokens ttl before middle after some plain knows owner finds learns = λ room old new result other h.
    let first = owner_of_record (owner_token blank tokens) in
    let own = explicit_ttl_of ttl in
    let found : StateAfter before (first ++ (own ++ [])) other = read_leaves blank end tokens ttl before some plain knows finds room old new result other h in
    let here : StateAfter before (first ++ own) after = learns before first (owner before [] (starts before)) in
    known_once before (first ++ own) other after (subst (λ l. StateAfter before (first ++ l) other) (append-nil own) found) here

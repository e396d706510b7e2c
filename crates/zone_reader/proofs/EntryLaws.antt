-- The TTL, class and type of an entry are found in one way, and an entry has one meaning.
use Rattle.std.proofs.Common.{◌≡◌, ℕ, Bool, true, false, List, [], ◌∷◌, inl, inr, Option, Some, None, Result, Ok, Err, refl, sym, ap, subst, ◌∙◌}
use Rattle.std.specs.Prelude.{◌≢◌, is_none}
use Rattle.rdata_fields.specs.RecordErrors.{IsErrorAt, error_at}
use Rattle.rdata_fields.specs.Source.{next_place}
use Rattle.rdata_fields.specs.declared.record_error.RecordError.{RecordError}
use Rattle.rdata_values.specs.declared.error.ErrorKind.{ErrorKind}
use Rattle.dns_lexer.specs.EntryTokens.{TokenSeen}
use Rattle.zone_reader.specs.Arguments.{ParsesDefaultTtl, ExpectsEnd, ParsesTtl, WhyNoTtl}
use Rattle.zone_reader.specs.Directives.{ParsesDirective, directive_of}
use Rattle.zone_reader.specs.EntryMeanings.{EntryMeaning, says_default_ttl, says_record, says_refused, DirectiveMeans, EntryMeans, RecordMeans, FirstTokenMeans}
use Rattle.zone_reader.specs.HeaderLaws.{HeadsFoundOnce, WordsFoundOnce, EntriesHaveOneMeaning, ParsedEntriesHaveMeaning}
use Rattle.zone_reader.specs.HeaderWords.{TokenIsTtl, TokenIsClass, TokenIsType}
use Rattle.zone_reader.specs.Headers.{WhyNoType, ParsesHeader}
use Rattle.zone_reader.specs.declared.directive.Directive.{Directive}
use Rattle.zone_reader.specs.declared.directive.Directive.TheVariants.{Origin, Ttl, Include, Generate}
use Rattle.zone_reader.specs.declared.header.RecordHeader.{RecordHeader}
use Rattle.zone_reader.specs.declared.header.HeaderError.{HeaderError}
use Rattle.zone_reader.proofs.Once.{heads_once}
use Rattle.zone_reader.proofs.WordLemmas.{ttl_once, class_once, type_once, apart}

pub heads_found_once : HeadsFoundOnce
heads_found_once = heads_once TokenIsTtl TokenIsClass ttl_once class_once apart.ttl_and_class

-- two errors with the same offset and the same kind are equal
same_error : (at from : ℕ) (e f : RecordError) → IsErrorAt at e → IsErrorAt from f → at ≡ from → e.kind ≡ f.kind → e ≡ f
same_error at from e f h k place kind = h ∙ (λ i. error_at (place i) (kind i)) ∙ sym k

why_once : (b : Bool) (tokens : List TokenSeen) (e f : ErrorKind) → WhyNoType b tokens e → WhyNoType b tokens f → e ≡ f
why_once b [] e f h k = h ∙ sym k
why_once b (t ∷ ts) e f h k = h.0 ∙ sym k.0

same_token : {T : Type 0} (t u : T) (ts us : List T) → t ∷ ts ≡ u ∷ us → (t ≡ u) × (ts ≡ us)
same_token t u ts us h = (cc, cc)

no_type : (end : ℕ) (tokens left rest : List TokenSeen) (w : RecordHeader) (r : HeaderError) → ParsesHeader end tokens (Ok w) left → ParsesHeader end tokens (Err r) rest → ⊥
no_type end tokens left rest w r h k =
    let same = heads_found_once tokens (h.0 ∷ left) rest w.ttl w.class r.ttl r.class h.1 k.0 in
    let why : WhyNoType (is_none r.ttl) (h.0 ∷ left) r.error.kind = subst (λ l. WhyNoType (is_none r.ttl) l r.error.kind) (sym same.2) k.2 in
    why.1 w.rtype h.2

pub words_found_once : WordsFoundOnce
words_found_once end tokens left rest (Ok w) (Ok v) h k =
    let same = heads_found_once tokens (h.0 ∷ left) (k.0 ∷ rest) w.ttl w.class v.ttl v.class h.1 k.1 in
    let parts = same_token h.0 k.0 left rest same.2 in
    let rtype = type_once k.0 w.rtype v.rtype (subst (λ t. TokenIsType t w.rtype) parts.0 h.2) k.2 in
    let words : w ≡ v = λ i. record { ttl = same.0 i; class = same.1 i; rtype = rtype i } in
    (ap Ok words, parts.1)
words_found_once end tokens left rest (Ok w) (Err s) h k = absurd (no_type end tokens left rest w s h k)
words_found_once end tokens left rest (Err r) (Ok v) h k = absurd (no_type end tokens rest left v r k h)
words_found_once end tokens left rest (Err r) (Err s) h k =
    let same = heads_found_once tokens left rest r.ttl r.class s.ttl s.class h.0 k.0 in
    let first : WhyNoType (is_none s.ttl) rest r.error.kind = subst (λ l. WhyNoType (is_none s.ttl) l r.error.kind) same.2 (subst (λ o. WhyNoType (is_none o) left r.error.kind) same.0 h.2) in
    let why = why_once (is_none s.ttl) rest r.error.kind s.error.kind first k.2 in
    let error = same_error (next_place left end) (next_place rest end) r.error s.error h.1 k.1 (ap (λ l. next_place l end) same.2) why in
    let refused : r ≡ s = λ i. record { error = error i; ttl = same.0 i; class = same.1 i } in
    (ap Err refused, same.2)

-- ---- `$TTL`

why_no_ttl_once : (tokens : List TokenSeen) (e f : ErrorKind) → WhyNoTtl tokens e → WhyNoTtl tokens f → e ≡ f
why_no_ttl_once [] e f h k = h ∙ sym k
why_no_ttl_once (t ∷ ts) e f h k = h.0 ∙ sym k.0

ends_once : (tokens left rest : List TokenSeen) (r s : RecordError) → ExpectsEnd tokens (Err r) left → ExpectsEnd tokens (Err s) rest → r ≡ s
ends_once [] left rest r s h k = absurd h
ends_once (t ∷ ts) left rest r s h k = h.1 ∙ sym k.1

no_end : (tokens left : List TokenSeen) (r : RecordError) → tokens ≡ [] → ExpectsEnd tokens (Err r) left → ⊥
no_end [] left r e h = h
no_end (t ∷ ts) left r e h = cc

no_ttl : (end : ℕ) (tokens left rest : List TokenSeen) (n : ℕ) (r : RecordError) → ParsesTtl end tokens (Ok n) left → ParsesTtl end tokens (Err r) rest → ⊥
no_ttl end tokens left rest n r h k =
    let why : WhyNoTtl (h.0 ∷ left) r.kind = subst (λ l. WhyNoTtl l r.kind) h.1 k.2 in
    why.1 n h.2

ttl_taken_once : (end : ℕ) (tokens left rest : List TokenSeen) (n m : ℕ) → ParsesTtl end tokens (Ok n) left → ParsesTtl end tokens (Ok m) rest → (n ≡ m) × (left ≡ rest)
ttl_taken_once end tokens left rest n m h k =
    let parts = same_token h.0 k.0 left rest (sym h.1 ∙ k.1) in
    (ttl_once k.0 n m (subst (λ t. TokenIsTtl t n) parts.0 h.2) k.2, parts.1)

-- a default TTL is parsed, and not rejected
not_refused : (end : ℕ) (tokens rest : List TokenSeen) (n : ℕ) (r : RecordError) → ParsesTtl end tokens (Ok n) [] → ParsesDefaultTtl end tokens (Err r) rest → ⊥
not_refused end tokens rest n r h (inl k) = no_ttl end tokens [] rest n r h k
not_refused end tokens rest n r h (inr k) = no_end rest rest r (sym (ttl_taken_once end tokens [] rest n k.0 h k.1).1) k.2

refusals_once : (end : ℕ) (tokens left rest : List TokenSeen) (r s : RecordError) → ParsesDefaultTtl end tokens (Err r) left → ParsesDefaultTtl end tokens (Err s) rest → r ≡ s
refusals_once end tokens left rest r s (inl h) (inl k) = same_error (next_place tokens end) (next_place tokens end) r s h.1 k.1 refl (why_no_ttl_once tokens r.kind s.kind h.2 k.2)
refusals_once end tokens left rest r s (inl h) (inr k) = absurd (no_ttl end tokens rest left k.0 r k.1 h)
refusals_once end tokens left rest r s (inr h) (inl k) = absurd (no_ttl end tokens left rest h.0 s h.1 k)
refusals_once end tokens left rest r s (inr h) (inr k) =
    let same = (ttl_taken_once end tokens left rest h.0 k.0 h.1 k.1).1 in
    ends_once rest left rest r s (subst (λ l. ExpectsEnd l (Err r) left) same h.2) k.2

default_ttl_once : (end : ℕ) (tokens left rest : List TokenSeen) (r s : Result ℕ RecordError) → ParsesDefaultTtl end tokens r left → ParsesDefaultTtl end tokens s rest → r ≡ s
default_ttl_once end tokens left rest (Ok n) (Ok m) h k = ap Ok (ttl_taken_once end tokens [] [] n m h.0 k.0).0
default_ttl_once end tokens left rest (Ok n) (Err s) h k = absurd (not_refused end tokens rest n s h.0 k)
default_ttl_once end tokens left rest (Err r) (Ok m) h k = absurd (not_refused end tokens left m r k.0 h)
default_ttl_once end tokens left rest (Err r) (Err s) h k = ap Err (refusals_once end tokens left rest r s h k)

-- ---- entries

directive_says_once : (d : Directive) (end : ℕ) (tokens : List TokenSeen) (m n : EntryMeaning) → DirectiveMeans d end tokens m → DirectiveMeans d end tokens n → m ≡ n
directive_says_once Origin end [] m n h k = h ∙ sym k
directive_says_once Origin end (name ∷ []) m n h k = h ∙ sym k
directive_says_once Origin end (name ∷ t ∷ ts) m n h k = h ∙ sym k
directive_says_once Ttl end tokens m n h k = h.3 ∙ ap says_default_ttl (default_ttl_once end tokens h.1 k.1 h.0 k.0 h.2 k.2) ∙ sym k.3
directive_says_once Include end [] m n h k = h ∙ sym k
directive_says_once Include end (file ∷ []) m n h k = h ∙ sym k
directive_says_once Include end (file ∷ origin ∷ []) m n h k = h ∙ sym k
directive_says_once Include end (file ∷ origin ∷ t ∷ ts) m n h k = h ∙ sym k
directive_says_once Generate end tokens m n h k = h ∙ sym k

record_says_once : (owner : Option TokenSeen) (end : ℕ) (tokens : List TokenSeen) (m n : EntryMeaning) → RecordMeans owner end tokens m → RecordMeans owner end tokens n → m ≡ n
record_says_once owner end tokens m n h k =
    let same = words_found_once end tokens h.1 k.1 h.0 k.0 h.2 k.2 in
    let meaning : says_record owner h.0 h.1 ≡ says_record owner k.0 k.1 = λ i. says_record owner (same.0 i) (same.1 i) in
    h.3 ∙ meaning ∙ sym k.3

first_says_once : (found : Option (Result Directive ErrorKind)) (end : ℕ) (t : TokenSeen) (ts : List TokenSeen) (m n : EntryMeaning) → FirstTokenMeans found end t ts m → FirstTokenMeans found end t ts n → m ≡ n
first_says_once None end t ts m n h k = record_says_once (Some t) end ts m n h k
first_says_once (Some (Ok d)) end t ts m n h k = directive_says_once d end ts m n h k
first_says_once (Some (Err why)) end t ts m n h k = h ∙ sym k

pub entries_say_once : EntriesHaveOneMeaning
entries_say_once blank end [] m n h k = h ∙ sym k
entries_say_once true end (t ∷ ts) m n h k = record_says_once None end (t ∷ ts) m n h k
entries_say_once false end (t ∷ ts) m n h k = first_says_once (directive_of t) end t ts m n h k

-- ---- what is parsed is what the tokens mean

blank_says : (end : ℕ) (tokens left : List TokenSeen) (r : Result RecordHeader HeaderError) → tokens ≢ [] → ParsesHeader end tokens r left → EntryMeans true end tokens (says_record None r left)
blank_says end [] left r some h = absurd (some refl)
blank_says end (t ∷ ts) left r some h = (r, left, h, refl)

owner_says : (end : ℕ) (t : TokenSeen) (ts rest left : List TokenSeen) (r : Result RecordHeader HeaderError) → ParsesDirective false end (t ∷ ts) (Ok None) rest → ParsesHeader end ts r left
    → EntryMeans false end (t ∷ ts) (says_record (Some t) r left)
owner_says end t ts rest left r none h = subst (λ found. FirstTokenMeans found end t ts (says_record (Some t) r left)) (sym none.1) (r, left, h, refl)

directive_says : (blank : Bool) (end : ℕ) (tokens left : List TokenSeen) (d : Directive) (m : EntryMeaning) → ParsesDirective blank end tokens (Ok (Some d)) left → DirectiveMeans d end left m → EntryMeans blank end tokens m
directive_says true end tokens left d m h k = let e = h.1 in cc
directive_says false end [] left d m h k = let e = h.1 in cc
directive_says false end (t ∷ ts) left d m h k = subst (λ found. FirstTokenMeans found end t ts m) (sym h.1) (subst (λ l. DirectiveMeans d end l m) h.0 k)

refused_says : (blank : Bool) (end : ℕ) (tokens left : List TokenSeen) (r : RecordError) → ParsesDirective blank end tokens (Err r) left → EntryMeans blank end tokens (says_refused r)
refused_says true end tokens left r h = let e = h.1 in cc
refused_says false end [] left r h = let e = h.1 in cc
refused_says false end (t ∷ ts) left r h =
    subst (λ found. FirstTokenMeans found end t ts (says_refused r)) (sym h.1) (ap says_refused h.2)

pub entries_say_taken : ParsedEntriesHaveMeaning
entries_say_taken = record { blank = blank_says; owner = owner_says; directive = directive_says; refused = refused_says }

-- What is inherited of a record whose owner is not parsed.
use Rattle.std.proofs.Common.{ℕ, ◌≡◌, ◌≢◌, ◌<◌, ◌+◌, Bool, true, false, List, [], ◌∷◌, ◌++◌, length, map, Option, Some, None, Result, Ok, refl, sym, subst, ap, ◌∙◌, append-nil, append_assoc, arith, inl, inr, true≢false, eqb-true, suc}
use Rattle.std.specs.Prelude.{◌==◌, is_some}
use Rattle.std.proofs.lemmas.List.{map-append}
use Rattle.std.proofs.lemmas.Option.{none-some}
use Rattle.dns_octets.specs.Room.{Room}
use Rattle.dns_lexer.specs.CursorStates.{blank_at}
use Rattle.dns_lexer.specs.EntryTokens.{TokenSeen, word_seen}
use Rattle.dns_lexer.specs.PassedLine.{HasNoEnd, PassesEntry}
use Rattle.dns_lexer.specs.Pieces.{AreItemsOf}
use Rattle.dns_lexer.specs.declared.pieces.Fault.{Fault}
use Rattle.dns_lexer.specs.declared.pieces.Piece.{Piece}
use Rattle.dns_lexer.specs.declared.pieces.Piece.TheVariants.{Word as WordAt, Quote as QuoteAt, Comment as CommentAt, End as EndAt}
use Rattle.dns_lexer.specs.declared.pieces.Span.{Span}
use Rattle.zone_reader.specs.Directives.{directive_of, first_directive}
use Rattle.zone_reader.specs.EntryReading.{declared_by_entry, explicit_ttl_of}
use Rattle.zone_reader.specs.EntrySteps.{own_or_last}
use Rattle.zone_reader.specs.FirstEntry.{piece_tokens}
use Rattle.zone_reader.specs.HeaderWords.{FindsWord, TokenIsClass, TokenIsTtl}
use Rattle.zone_reader.specs.Learning.{Updates}
use Rattle.zone_reader.specs.Past.{Declared, NewOwner, owner_declared, NoneDeclared, DeclaredLast, IsOriginAfter, no_origin_said, IsOwnerAfter, no_owner_said, owner_said_last, NamedBy, StateAfter, known_name}
use Rattle.zone_reader.specs.Tape.{span_token}
use Rattle.zone_reader.specs.TapeSource.{token_after}
use Rattle.zone_reader.specs.declared.known.NameState.{NameState}
use Rattle.zone_reader.specs.declared.state.State.{State}
use Rattle.zone_reader.specs.declared.tape.TokenSpan.{TokenSpan}
use Rattle.zone_reader.proofs.Learned.{nothing_learned, owner_learned, ttl_learned}
use Rattle.zone_reader.proofs.PastStates.{known_once, origin_once, starts}
use Rattle.zone_reader.proofs.Pasts.{said_once}
use Rattle.zone_parts.specs.Inherited.{IsInherited, IsRecordLine, LeavesMeant, Means, SkipsToTtl}
use Rattle.zone_parts.specs.Passing.{PassesZoneEntry, knows_ttl}
use Rattle.zone_parts.specs.declared.pass_error.PassError.{PassError}
use Rattle.zone_parts.proofs.Passes.{read_leaves}

-- ---- the owner of a record is the name of its token

named_of : (start : State) (t : TokenSeen) (later : List Declared) (o : NameState) → NoneDeclared owner_declared later → IsOwnerAfter start (NewOwner (Some t) ∷ later) o → NamedBy (known_name start.origin) (Some t) o
named_of start t later o quiet (no_owner_said still is) = absurd (none-some (Some t) (sym still.0))
named_of start t later o quiet (owner_said_last token last before was named) =
    let said : DeclaredLast owner_declared (NewOwner (Some t) ∷ later) (Some t) = record { before = []; at = NewOwner (Some t); after = later; whole = refl; said = refl; silent = quiet } in
    let same = said_once owner_declared (NewOwner (Some t) ∷ later) token (Some t) last said in
    let here : before ≡ start.origin = origin_once start [] before start.origin (subst (λ l. IsOriginAfter start l before) same.0 was) (no_origin_said [] start.origin tt refl) in
    subst (λ n. NamedBy (known_name n) (Some t) o) here (subst (λ k. NamedBy (known_name before) k o) same.1 named)

ttl_quiet : (ttl : Option ℕ) → NoneDeclared owner_declared (explicit_ttl_of ttl ++ [])
ttl_quiet None = tt
ttl_quiet (Some n) = (refl, tt)

-- ---- the state with a TTL

abbrev stored : Option ℕ → State → State
stored ttl s = record s { last_ttl = own_or_last ttl s.last_ttl }

is_stored : (ttl : Option ℕ) (s : State) → Updates (explicit_ttl_of ttl) s (stored ttl s)
is_stored None s = nothing_learned s
is_stored (Some n) s = ttl_learned s n

stored_is : (ttl : Option ℕ) (s t : State) → Updates (explicit_ttl_of ttl) s t → t ≡ stored ttl s
stored_is ttl s t h = known_once s (explicit_ttl_of ttl) t (stored ttl s) (h s [] (starts s)) (is_stored ttl s s [] (starts s))

-- ---- what is meant

as_meant : (s : State) (owner : Option TokenSeen) (b : State) → Means s owner b → b ≡ record s { owner = b.owner }
as_meant s None b h = h ∙ ap (λ (o : NameState). record s { owner = o }) (ap (λ (x : State). x.owner) (sym h))
as_meant s (Some token) b h = h.1

means_name : (ttl : Option ℕ) (s t other : State) (token : TokenSeen) (name : NameState) → t ≡ stored ttl s → NamedBy (known_name s.origin) (Some token) name → other ≡ record (stored ttl s) { owner = name } → Means t (Some token) other
means_name ttl s t other token name t_is named is =
    let owner_is : other.owner ≡ name = ap (λ (x : State). x.owner) is in
    subst (λ (x : State). Means x (Some token) other) (sym t_is) (subst (λ n. NamedBy (known_name s.origin) (Some token) n) (sym owner_is) named, is ∙ ap (λ (n : NameState). record (stored ttl s) { owner = n }) (sym owner_is))

means_on : (ttl : Option ℕ) (s t before other : State) (owner : Option TokenSeen) → t ≡ stored ttl s → Means s owner before → other ≡ stored ttl before → Means t owner other
means_on ttl s t before other None t_is h is = is ∙ ap (stored ttl) h ∙ sym t_is
means_on ttl s t before other (Some token) t_is h is = means_name ttl s t other token before.owner t_is h.0 (is ∙ ap (stored ttl) h.1)

knows_meant : (s : State) (owner : Option TokenSeen) (b : State) → Means s owner b → knows_ttl s ≡ true → knows_ttl b ≡ true
knows_meant s owner b h knows = ap knows_ttl (as_meant s owner b h) ∙ knows

-- ---- records

module _ (end : ℕ) (tokens : List TokenSeen) (ttl : Option ℕ) (s t : State) (owner : Option TokenSeen) where
  keeps_blank : knows_ttl s ≡ true → IsInherited true tokens None ttl → Updates (explicit_ttl_of ttl) s t → LeavesMeant true end tokens s owner t owner
  keeps_blank knows i stores = λ before means room old new result other reads.
      let there : StateAfter before (explicit_ttl_of ttl ++ []) other = read_leaves true end tokens ttl before i.some i.plain (knows_meant s owner before means knows) i.finds room old new result other reads in
      let is : other ≡ stored ttl before = known_once before (explicit_ttl_of ttl) other (stored ttl before) (subst (λ l. StateAfter before l other) (append-nil (explicit_ttl_of ttl)) there) (is_stored ttl before before [] (starts before)) in
      means_on ttl s t before other owner (stored_is ttl s t stores) means is

takes_name : (end : ℕ) (token : TokenSeen) (tokens : List TokenSeen) (ttl : Option ℕ) (s t : State) (owner : Option TokenSeen) → knows_ttl s ≡ true → IsInherited false (token ∷ tokens) (Some token) ttl → Updates (explicit_ttl_of ttl) s t → LeavesMeant false end (token ∷ tokens) s owner t (Some token)
takes_name end token tokens ttl s t owner knows i stores = λ before means room old new result other reads.
    let own = explicit_ttl_of ttl in
    let there : StateAfter before (NewOwner (Some token) ∷ (own ++ [])) other = read_leaves false end (token ∷ tokens) ttl before i.some i.plain (knows_meant s owner before means knows) i.finds room old new result other reads in
    let named : NamedBy (known_name before.origin) (Some token) other.owner = named_of before token (own ++ []) other.owner (ttl_quiet ttl) there.owner in
    let middle : State = record before { owner = other.owner } in
    let here : StateAfter before (NewOwner (Some token) ∷ own) (stored ttl middle) = is_stored ttl middle before (NewOwner (Some token) ∷ []) (owner_learned before (Some token) other.owner named before [] (starts before)) in
    let is : other ≡ stored ttl middle = known_once before (NewOwner (Some token) ∷ own) other (stored ttl middle) (subst (λ l. StateAfter before (NewOwner (Some token) ∷ l) other) (append-nil own) there) here in
    let meant : before ≡ record s { owner = before.owner } = as_meant s owner before means in
    means_name ttl s t other token other.owner (stored_is ttl s t stores) (subst (λ n. NamedBy (known_name n) (Some token) other.owner) (ap (λ (x : State). x.origin) meant) named)
    (is ∙ ap (λ (x : State). record (stored ttl x) { owner = other.owner }) meant)

-- no owner is stored, or one is
pub keeps_owner : (blank : Bool) (end : ℕ) (tokens : List TokenSeen) (ttl : Option ℕ) (s t : State) (owner : Option TokenSeen) → knows_ttl s ≡ true → IsInherited blank tokens None ttl → Updates (explicit_ttl_of ttl) s t → LeavesMeant blank end tokens s owner t owner
keeps_owner true end tokens ttl s t owner knows i stores = keeps_blank end tokens ttl s t owner knows i stores
keeps_owner false end [] ttl s t owner knows i stores = absurd (i.some refl)
keeps_owner false end (x ∷ tokens) ttl s t owner knows i stores = absurd (none-some x i.owner_is)

pub takes_owner : (blank : Bool) (end : ℕ) (tokens : List TokenSeen) (token : TokenSeen) (ttl : Option ℕ) (s t : State) (owner : Option TokenSeen) → knows_ttl s ≡ true → IsInherited blank tokens (Some token) ttl → Updates (explicit_ttl_of ttl) s t → LeavesMeant blank end tokens s owner t (Some token)
takes_owner true end tokens token ttl s t owner knows i stores = absurd (none-some token (sym i.owner_is))
takes_owner false end [] token ttl s t owner knows i stores = absurd (i.some refl)
takes_owner false end (x ∷ tokens) token ttl s t owner knows i stores =
    let same : token ≡ x = cc in
    let own : IsInherited false (x ∷ tokens) (Some x) ttl = record { some = i.some; plain = i.plain; owner_is = refl; finds = i.finds } in
    subst (λ k. LeavesMeant false end (x ∷ tokens) s owner t (Some k)) (sym same) (takes_name end x tokens ttl s t owner knows own stores)

-- an entry without tokens
pub empty_keeps : (blank : Bool) (end : ℕ) (s : State) (owner : Option TokenSeen) → LeavesMeant blank end [] s owner s owner
empty_keeps blank end s owner = λ before means room old new result other reads.
    let quiet : Updates [] before other = subst (λ m. Updates (declared_by_entry (first_directive blank []) m result) before other) reads.says reads.learns in
    subst (Means s owner) (sym (known_once before [] other before (quiet before [] (starts before)) (starts before))) means

-- ---- words of a line

pub cons_some : {X : Type 0} (x : X) (xs : List X) → x ∷ xs ≢ []
cons_some x xs h = cc

class_some : (t : TokenSeen) (k : Option ℕ) → FindsWord TokenIsClass t k → is_some k ≡ true → (class : ℕ) × TokenIsClass t class
class_some t None f h = absurd (true≢false (sym h))
class_some t (Some n) f h = (n, f)

class_none : (t : TokenSeen) (k : Option ℕ) → FindsWord TokenIsClass t k → is_some k ≡ false → ((class : ℕ) × TokenIsClass t class) → ⊥
class_none t None f h c = f c.0 c.1
class_none t (Some n) f h c = absurd (true≢false h)

module _ (octets : List ℕ) (ended : Option ℕ) (p : Span) (old mid : List (Result Piece Fault)) (first : old ≡ Ok (WordAt p) ∷ mid) where
  pub takes_first : (n : ℕ) → FindsWord TokenIsTtl (word_seen octets ended p) (Some n) → SkipsToTtl octets ended old mid (Some n)
  takes_first n f = record {
    words = WordAt p ∷ [];
    is_open = tt;
    is = first;
    some = λ found. cons_some (word_seen octets ended p) (piece_tokens octets (Some p.end) found);
    finds = λ found. inl (n, f, refl);
  }

  pub takes_neither : (k : Option ℕ) → FindsWord TokenIsTtl (word_seen octets ended p) None → FindsWord TokenIsClass (word_seen octets ended p) k → is_some k ≡ false → SkipsToTtl octets ended old mid None
  takes_neither k f g none = record {
    words = WordAt p ∷ [];
    is_open = tt;
    is = first;
    some = λ found. cons_some (word_seen octets ended p) (piece_tokens octets (Some p.end) found);
    finds = λ found. inr (inl (f, class_none (word_seen octets ended p) k g none, refl));
  }

  pub takes_second : (q : Span) (new : List (Result Piece Fault)) (k found : Option ℕ) → mid ≡ Ok (WordAt q) ∷ new → FindsWord TokenIsTtl (word_seen octets ended p) None → FindsWord TokenIsClass (word_seen octets ended p) k → is_some k ≡ true
      → FindsWord TokenIsTtl (word_seen octets (Some p.end) q) found → SkipsToTtl octets ended old new found
  takes_second q new k found second f g some h = record {
    words = WordAt p ∷ WordAt q ∷ [];
    is_open = tt;
    is = first ∙ ap (λ l. Ok (WordAt p) ∷ l) second;
    some = λ more. cons_some (word_seen octets ended p) (piece_tokens octets (Some p.end) (WordAt q ∷ more));
    finds = λ more. inr (inr (f, class_some (word_seen octets ended p) k g some, h));
  }

-- ---- a line

both_open : (a b : List Piece) → HasNoEnd a → HasNoEnd b → HasNoEnd (a ++ b)
both_open [] b h k = k
both_open (WordAt x ∷ a) b h k = both_open a b h k
both_open (QuoteAt x ∷ a) b h k = both_open a b h k
both_open (CommentAt x ∷ a) b h k = both_open a b h k
both_open (EndAt x ∷ a) b h k = elim h [ ]

some_left : (left : List (Result Piece Fault)) → left ≢ [] → 0 < length left
some_left [] h = absurd (h refl)
some_left (x ∷ left) h = omega arith

joined : (words : List Piece) (old mid left : List (Result Piece Fault)) (found : List Piece) (e : Result Piece Fault) → old ≡ map Ok words ++ mid → mid ≡ map Ok found ++ e ∷ left → old ≡ map Ok (words ++ found) ++ e ∷ left
joined words old mid left found e is then =
    is ∙ ap (λ l. map Ok words ++ l) then ∙ sym (append_assoc (map Ok words) (map Ok found) (e ∷ left)) ∙ ap (λ l. l ++ e ∷ left) (sym (map-append Ok words found))

pub line_blank : (octets : List ℕ) (ttl : Option ℕ) (end : ℕ) (given mid left : List (Result Piece Fault)) → AreItemsOf octets given → SkipsToTtl octets None given mid ttl → PassesEntry mid end left → blank_at octets 0 ≡ true → IsRecordLine octets None ttl end
line_blank octets ttl end given mid left items h x blank =
    let tokens = piece_tokens octets None (h.words ++ x.found) in
    let own : IsInherited true tokens None ttl = record { some = h.some x.found; plain = refl; owner_is = refl; finds = h.finds x.found } in
    record {
      tokens = tokens;
      entry = record {
        stop = x.end;
        left = left;
        first = record { found = h.words ++ x.found; is_open = both_open h.words x.found h.is_open x.is_open; given = subst (AreItemsOf octets) (joined h.words given mid left x.found (Ok (EndAt x.end)) h.is x.is) items };
        ends = x.ends_at;
        are = refl;
      };
      some = some_left left x.some;
      inherited = subst (λ b. IsInherited b tokens None ttl) (sym blank) own;
    }

pub line_named : (octets : List ℕ) (ttl : Option ℕ) (end : ℕ) (p : Span) (given one mid left : List (Result Piece Fault)) → AreItemsOf octets given → given ≡ Ok (WordAt p) ∷ one → SkipsToTtl octets (Some p.end) one mid ttl → PassesEntry mid end left
    → blank_at octets 0 ≡ false → is_some (directive_of (word_seen octets None p)) ≡ false → IsRecordLine octets (Some (word_seen octets None p)) ttl end
line_named octets ttl end p given one mid left items first h x blank plain =
    let t = word_seen octets None p in
    let more = piece_tokens octets (Some p.end) (h.words ++ x.found) in
    let own : IsInherited false (t ∷ more) (Some t) ttl = record { some = cons_some t more; plain = plain; owner_is = refl; finds = h.finds x.found } in
    record {
      tokens = t ∷ more;
      entry = record {
        stop = x.end;
        left = left;
        first = record { found = WordAt p ∷ (h.words ++ x.found); is_open = both_open h.words x.found h.is_open x.is_open; given = subst (AreItemsOf octets) (first ∙ ap (λ l. Ok (WordAt p) ∷ l) (joined h.words one mid left x.found (Ok (EndAt x.end)) h.is x.is)) items };
        ends = x.ends_at;
        are = refl;
      };
      some = some_left left x.some;
      inherited = subst (λ b. IsInherited b (t ∷ more) (Some t) ttl) (sym blank) own;
    }

-- ---- tokens of a tape that begins at the first octet

pub tape_tokens : (octets : List ℕ) (spans : List TokenSpan) → map (λ s. token_after 0 (span_token octets s)) spans ≡ map (span_token octets) spans
tape_tokens octets [] = refl
tape_tokens octets (s ∷ spans) =
    let same : 0 + s.offset ≡ s.offset = omega arith in
    ap (λ n. record (span_token octets s) { at = n } ∷ map (λ s. token_after 0 (span_token octets s)) spans) same ∙ ap (λ l. span_token octets s ∷ l) (tape_tokens octets spans)

pub no_spans : (octets : List ℕ) (spans : List TokenSpan) → true ≡ (length spans == 0) → map (span_token octets) spans ≡ []
no_spans octets [] h = refl
no_spans octets (s ∷ spans) h = absurd (omega (arith, eqb-true (suc (length spans)) 0 (sym h)))

pub some_spans : (octets : List ℕ) (spans : List TokenSpan) → false ≡ (length spans == 0) → map (span_token octets) spans ≢ []
some_spans octets [] h = absurd (true≢false (sym h))
some_spans octets (s ∷ spans) h = cons_some (span_token octets s) (map (span_token octets) spans)

-- an entry is passed by tokens and an end that are these
pub passes_as : (room : Room) (b blank : Bool) (at end : ℕ) (seen tokens : List TokenSeen) (before : State) (old : List ℕ) (result : Result (Unit {0}) PassError) (after : State) (new : List ℕ) → b ≡ blank → at ≡ end → seen ≡ tokens
    → PassesZoneEntry room b at seen before old result after new → PassesZoneEntry room blank end tokens before old result after new
passes_as room b blank at end seen tokens before old result after new p q r h =
    subst (λ l. PassesZoneEntry room blank end l before old result after new) r
    (subst (λ n. PassesZoneEntry room blank n seen before old result after new) q (subst (λ x. PassesZoneEntry room x at seen before old result after new) p h))

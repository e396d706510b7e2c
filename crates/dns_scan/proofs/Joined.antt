-- The symbols of tokens in turn are those of their join.
use Rattle.std.proofs.Common.{ℕ, ◌≡◌, List, [], ◌∷◌, ◌++◌, refl, sym, ap, subst, ◌∙◌, append_assoc, append-nil, arith, length, inl, inr, ⊎_elim, Option, Some, None, Result, Ok, Err}
use Rattle.std.specs.Prelude.{All, IsUtf8, IsErr, IsOk, IfOk}
use Rattle.std.specs.List.{flat_map, concat, AllByRecursion}
use Rattle.std.proofs.lemmas.Grind.{flat_map-append}
use Rattle.std.proofs.lemmas.List.Elements.{All-head, All-tail}
use Rattle.std.proofs.lemmas.List.Folds.{list_all-append}
use Rattle.dns_octets.specs.Room.{Room}
use Rattle.dns_symbol.specs.Symbol.{bytes, is_readable}
use Rattle.dns_symbol.specs.Text.{SymbolsOf}
use Rattle.dns_symbol.specs.declared.symbol.Symbol.{Symbol}
use Rattle.dns_symbol.specs.declared.symbol.EntrySymbol.{EntrySymbol}
use Rattle.dns_symbol.specs.declared.error.SymbolCharsError.{SymbolCharsError}
use Rattle.dns_symbol.proofs.Texts.{symbols_exist}
use Rattle.dns_symbol.proofs.Unique.{symbols_same}
use Rattle.dns_scan.specs.Asks.{CallsEachSymbol, CallsEach, EndsAfterSymbols}
use Rattle.dns_symbol.specs.Cause.{Cause}
use Rattle.dns_scan.specs.Entries.{Converts, ConvertsEntry, ConvertInEntry}
use Rattle.dns_scan.specs.Join.{CallsTokens, HasBadEscape, IsJoin, IsSymbols, LeavesOf}
use Rattle.dns_scan.specs.Unread.{HasTokens}
use Rattle.dns_scan.specs.Tokens.{Token}
use Rattle.dns_scan.proofs.InTurn.{in_turn, leaves, ok_before}
use Rattle.dns_scan.proofs.Whole.{not_err}

-- the symbols of one text and then of another
pub symbols_join : (a b : List ℕ) (xs ys : List Symbol) (e : Option SymbolCharsError) → SymbolsOf a xs None → SymbolsOf b ys e → SymbolsOf (a ++ b) (xs ++ ys) e
symbols_join a b xs ys e h k = record {
  rest = k.rest;
  readable = list_all-append is_readable xs ys ∙ rw (h.readable, k.readable) refl;
  spelled =
      ap (λ l. l ++ b) (h.spelled ∙ ap (λ l. flat_map bytes xs ++ l) h.ends ∙ append-nil (flat_map bytes xs))
      ∙ ap (λ l. flat_map bytes xs ++ l) k.spelled
      ∙ sym (append_assoc (flat_map bytes xs) (flat_map bytes ys) k.rest)
      ∙ ap (λ l. l ++ k.rest) (sym (flat_map-append bytes xs ys));
  ends = k.ends;
}

-- a join has symbols
pub join_reads : (tokens : List Token) (text : List ℕ) → IsJoin tokens text → (symbols : List Symbol) × (error : Option SymbolCharsError) × SymbolsOf text symbols error
join_reads [] text j = ([], None, record { rest = []; readable = refl; spelled = j; ends = refl })
join_reads (t ∷ ts) text (inl j) =
    let more = join_reads ts j.1.0 j.1.1 in
    (j.0.0 ++ more.0, more.1, subst (λ l. SymbolsOf l (j.0.0 ++ more.0) more.1) (sym j.1.2) (symbols_join t j.1.0 j.0.0 more.0 more.1 j.0.1 more.2))
join_reads (t ∷ ts) text (inr j) = (j.0.0, Some j.0.1, subst (λ l. SymbolsOf l j.0.0 (Some j.0.1)) (sym j.1) j.0.2)

-- tokens that all are symbols are joined in whole
pub whole_join : (tokens : List Token) → AllByRecursion IsSymbols tokens → IsJoin tokens (concat tokens)
whole_join [] a = refl
whole_join (t ∷ ts) a = inl (a.0, (concat ts, whole_join ts a.1, refl))

-- texts have a join
pub some_join : (tokens : List Token) → All IsUtf8 tokens → (text : List ℕ) × IsJoin tokens text
some_join [] a = ([], refl)
some_join (t ∷ ts) a =
    let read = symbols_exist (length t) t (omega arith) (All-head IsUtf8 t ts a) in
    by read.0 read.1 read.2 (some_join ts (All-tail IsUtf8 t ts a))
  where
    by : (symbols : List Symbol) (error : Option SymbolCharsError) → SymbolsOf t symbols error → (text : List ℕ) × IsJoin ts text → (text : List ℕ) × IsJoin (t ∷ ts) text
    by symbols None h more = (t ++ more.0, inl ((symbols, h), (more.0, more.1, refl)))
    by symbols (Some e) h more = (t, inr ((symbols, e, h), refl))

not_bad : (t : Token) → IsSymbols t → HasBadEscape t → ⊥
not_bad t h k = let same = (symbols_same t h.0 k.0 None (Some k.1) h.1 k.2).1 in cc

-- and one only
pub one_join : (tokens : List Token) (q r : List ℕ) → IsJoin tokens q → IsJoin tokens r → q ≡ r
one_join [] q r h k = h ∙ sym k
one_join (t ∷ ts) q r (inl h) (inl k) = h.1.2 ∙ ap (λ l. t ++ l) (one_join ts h.1.0 k.1.0 h.1.1 k.1.1) ∙ sym k.1.2
one_join (t ∷ ts) q r (inl h) (inr k) = absurd (not_bad t h.0 k.0)
one_join (t ∷ ts) q r (inr h) (inl k) = absurd (not_bad t k.0 h.0)
one_join (t ∷ ts) q r (inr h) (inr k) = h.1 ∙ sym k.1

module _ {F E : Type 0} (cause : E → Cause) (step : F → Symbol → Result (Unit {0}) E → F → Type 0) where
  -- calls for some symbols and then for others
  calls_join : (xs ys : List Symbol) (e : Option SymbolCharsError) (f h g : F) (r : Result (Unit {0}) E)
      → CallsEach step xs (EndsAfterSymbols cause None) f (Ok tt) h → CallsEach step ys (EndsAfterSymbols cause e) h r g → CallsEach step (xs ++ ys) (EndsAfterSymbols cause e) f r g
  calls_join [] ys e f h g r a b = subst (λ x. CallsEach step ys (EndsAfterSymbols cause e) x r g) a.0 b
  calls_join (x ∷ xs) ys e f h g r a b =
      ⊎_elim
      (λ k. inl (k.0, k.1, calls_join xs ys e k.0 h g r k.2 b))
      (λ k. absurd (not_err {E = E} (Ok tt) refl k.0))
      a

  -- an error is one of the longer list too
  calls_stop : (xs ys : List Symbol) (e : Option SymbolCharsError) (f g : F) (r : Result (Unit {0}) E) → IsErr r
      → CallsEach step xs (EndsAfterSymbols cause None) f r g → CallsEach step (xs ++ ys) (EndsAfterSymbols cause e) f r g
  calls_stop [] ys e f g r is a = absurd (not_err r a.1 is)
  calls_stop (x ∷ xs) ys e f g r is a =
      ⊎_elim
      (λ k. inl (k.0, k.1, calls_stop xs ys e k.0 g r is k.2))
      (λ k. inr k)
      a

  -- without an error, nothing follows the symbols
  calls_end : (xs : List Symbol) (e : Option SymbolCharsError) (f g : F) → CallsEach step xs (EndsAfterSymbols cause e) f (Ok tt) g → e ≡ None
  calls_end [] None f g a = refl
  calls_end [] (Some x) f g a = absurd a.1
  calls_end (x ∷ xs) e f g a =
      ⊎_elim
      (λ k. calls_end xs e k.0 g k.2)
      (λ k. absurd (not_err {E = E} (Ok tt) refl k.0))
      a

  one_end : (t : Token) (f g : F) → CallsEachSymbol cause step t f (Ok tt) g → IsSymbols t
  one_end t f g a = (a.symbols, subst (λ e. SymbolsOf t a.symbols e) (calls_end a.symbols a.error f g a.asked) a.read)

  -- the calls for each token in turn are the calls for their join
  pub asks_join : (tokens : List Token) (text : List ℕ) (f : F) (r : Result (Unit {0}) E) (rest : List Token) (g : F)
      → CallsTokens (λ p t q s. CallsEachSymbol cause step t p q s) tokens f r rest g → IsJoin tokens text → CallsEachSymbol cause step text f r g
  asks_join [] text f r rest g h j = record { symbols = []; error = None; read = record { rest = []; readable = refl; spelled = j; ends = refl }; asked = (h.2, h.0) }
  asks_join (t ∷ ts) text f r rest g h j =
      ⊎_elim
      (λ k. ⊎_elim
      (λ p. went k.1.0 k.1.2 p.0 p.1 (asks_join ts k.1.0 p.0 r rest g p.2 k.1.1))
      (λ p. stopped k.0 k.1.0 k.1.1 k.1.2 p.0 p.1)
      h)
      (λ k. ⊎_elim
      (λ p. absurd (broken k.0 p.0 p.1))
      (λ p. subst (λ l. CallsEachSymbol cause step l f r g) (sym k.1) p.1)
      h)
      j
    where
      went : (more : List ℕ) → text ≡ t ++ more → (m : F) → CallsEachSymbol cause step t f (Ok tt) m → CallsEachSymbol cause step more m r g → CallsEachSymbol cause step text f r g
      went more is m a b =
          let none = calls_end a.symbols a.error f m a.asked in
          let read : SymbolsOf t a.symbols None = subst (λ e. SymbolsOf t a.symbols e) none a.read in
          let asked : CallsEach step a.symbols (EndsAfterSymbols cause None) f (Ok tt) m = subst (λ e. CallsEach step a.symbols (EndsAfterSymbols cause e) f (Ok tt) m) none a.asked in
          record {
            symbols = a.symbols ++ b.symbols;
            error = b.error;
            read = subst (λ l. SymbolsOf l (a.symbols ++ b.symbols) b.error) (sym is) (symbols_join t more a.symbols b.symbols b.error read b.read);
            asked = calls_join a.symbols b.symbols b.error f m g r asked b.asked;
          }

      stopped : IsSymbols t → (more : List ℕ) → IsJoin ts more → text ≡ t ++ more → IsErr r → CallsEachSymbol cause step t f r g → CallsEachSymbol cause step text f r g
      stopped has more join is err a =
          let later = join_reads ts more join in
          let same = symbols_same t a.symbols has.0 a.error None a.read has.1 in
          let read : SymbolsOf t a.symbols None = subst (λ e. SymbolsOf t a.symbols e) same.1 a.read in
          let asked : CallsEach step a.symbols (EndsAfterSymbols cause None) f r g = subst (λ e. CallsEach step a.symbols (EndsAfterSymbols cause e) f r g) same.1 a.asked in
          record {
            symbols = a.symbols ++ later.0;
            error = later.1;
            read = subst (λ l. SymbolsOf l (a.symbols ++ later.0) later.1) (sym is) (symbols_join t more a.symbols later.0 later.1 read later.2);
            asked = calls_stop a.symbols later.0 later.1 f g r err asked;
          }

      broken : HasBadEscape t → (m : F) → CallsEachSymbol cause step t f (Ok tt) m → ⊥
      broken b m a = not_bad t (one_end t f m a) b

  -- without an error, every token is symbols
  pub all_symbols : (tokens : List Token) (f : F) (rest : List Token) (g : F)
      → CallsTokens (λ p t q s. CallsEachSymbol cause step t p q s) tokens f (Ok tt) rest g → AllByRecursion IsSymbols tokens
  all_symbols [] f rest g h = tt
  all_symbols (t ∷ ts) f rest g h =
      ⊎_elim
      (λ p. (one_end t f p.0 p.1, all_symbols ts p.0 rest g p.2))
      (λ p. absurd (not_err {E = E} (Ok tt) refl p.0))
      h

module _ {S C O E : Type 0} (next : S → Option Token → S → Type 0) (cause : E → Cause) (room : Room) (takes : C → EntrySymbol → Result (List ℕ) E → C → Type 0)
    (tail : C → Result (List ℕ) E → C → Type 0) (octets : O → List ℕ) (old : S) (convert : C) (r : Result O E) (new : S)
    (h : ConvertsEntry next cause room takes tail octets old convert r new) where
  pub converts_in_turn : (tokens : List Token) → HasTokens next old tokens
      → (rest : List Token) × Converts cause room tail octets (λ p a q. CallsTokens (ConvertInEntry cause room takes) tokens p a rest q) convert r × HasTokens next new rest
  converts_in_turn tokens stands =
      let turn = in_turn next (ConvertInEntry cause room takes) old (convert, []) h.converts.answer new h.converts.state h.converts.ran tokens stands in
      (turn.0, record { answer = h.converts.answer; state = h.converts.state; ran = turn.1; gives = h.converts.gives }, turn.2)

  pub converts_join : (tokens : List Token) (text : List ℕ) → HasTokens next old tokens → IsJoin tokens text
      → Converts cause room tail octets (λ p a q. ConvertInEntry cause room takes p text a q) convert r
  converts_join tokens text stands join =
      let turn = converts_in_turn tokens stands in
      record { answer = turn.1.answer; state = turn.1.state; ran = asks_join cause _ tokens text (convert, []) turn.1.answer turn.0 turn.1.state turn.1.ran join; gives = turn.1.gives }

  pub converts_leaves : (tokens : List Token) → HasTokens next old tokens → LeavesOf next tokens r new
  converts_leaves = leaves (ConvertInEntry cause room takes) next old (convert, []) h.converts.answer new h.converts.state h.converts.ran r (ok_before _ h.converts.answer r h.converts.gives)

  pub converts_symbols : (tokens : List Token) → HasTokens next old tokens → IfOk r (λ _. AllByRecursion IsSymbols tokens)
  converts_symbols tokens stands = by r h.converts.answer refl (λ is. ok_before _ h.converts.answer r h.converts.gives is)
    where
      whole : h.converts.answer ≡ Ok tt → AllByRecursion IsSymbols tokens
      whole is =
          let turn = in_turn next (ConvertInEntry cause room takes) old (convert, []) h.converts.answer new h.converts.state h.converts.ran tokens stands in
          all_symbols cause _ tokens (convert, []) turn.0 h.converts.state (subst (λ a. CallsTokens (ConvertInEntry cause room takes) tokens (convert, []) a turn.0 h.converts.state) is turn.1)

      by : (q : Result O E) (a : Result (Unit {0}) E) → h.converts.answer ≡ a → (IsOk q → IsOk h.converts.answer) → IfOk q (λ _. AllByRecursion IsSymbols tokens)
      by (Ok x) (Ok u) is ok = whole is
      by (Ok x) (Err e) is ok = let z : IsOk {T = Unit {0}} {E = E} (Err e) = subst IsOk is (ok refl) in cc
      by (Err e) a is ok = tt

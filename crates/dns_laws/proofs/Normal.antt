-- The entries of a text are a document, whose simple layout is the normal form.
use Rattle.std.proofs.Common.{◌≡◌, ℕ, zero, suc, true, ◌&&◌, List, [], ◌∷◌, ◌++◌, refl, sym, ap, ◌∙◌, subst, append-nil}
use Rattle.std.proofs.lemmas.Bool.{and_parts}
use Rattle.dns_lexer.specs.Lexeme.{Lexeme, Blank, Line, Open, Close, Note, Word, Quote, lexeme_bytes, is_lexeme}
use Rattle.dns_lexer.specs.Splitting.{Splits, may_precede, are_lexemes, with_token, entries, Entries}
use Rattle.dns_zone.specs.Layout.{Step, newline, layout, simple_piece}
use Rattle.dns_zone.specs.Documents.{IsWellFormed}
use Rattle.dns_laws.specs.Entries.{document_entries, tokens, document_of}
use Rattle.dns_lexer.proofs.Tokens.{one_token}
use Rattle.dns_lexer.specs.Token.{IsToken}
use Rattle.dns_lexer.proofs.Complete.{one_way}
use Rattle.dns_laws.proofs.DocumentLayouts.{simple_splits}

abbrev pub AreTokens : List (List ℕ) → Type 0
AreTokens [] = Unit {0}
AreTokens (t ∷ ts) = IsToken t × AreTokens ts

-- entries of tokens, at least one
abbrev pub AreEntries : Entries → Type 0
AreEntries [] = ⊥
AreEntries (ts ∷ []) = AreTokens ts
AreEntries (ts ∷ us ∷ es) = AreTokens ts × AreEntries (us ∷ es)

pub more_token : (t : List ℕ) (e : Entries) → IsToken t → AreEntries e → AreEntries (with_token t e)
more_token t [] i a = (i, tt)
more_token t (ts ∷ []) i a = (i, a)
more_token t (ts ∷ us ∷ es) i a = ((i, a.0), a.1)

more_entry : (e : Entries) → AreEntries e → AreEntries ([] ∷ e)
more_entry [] a = absurd a
more_entry (ts ∷ es) a = (tt, a)

-- what lexemes are cut into are tokens
pub are_entries : (d : ℕ) (ls : List Lexeme) → are_lexemes ls ≡ true → AreEntries (entries d ls)
are_entries d [] v = tt
are_entries d (Open ∷ ls) v = are_entries (suc d) ls v
are_entries zero (Line b ∷ ls) v = more_entry (entries zero ls) (are_entries zero ls v)
are_entries (suc d) (Line b ∷ ls) v = are_entries (suc d) ls v
are_entries zero (Close ∷ ls) v = are_entries zero ls v
are_entries (suc d) (Close ∷ ls) v = are_entries d ls v
are_entries d (Blank b ∷ ls) v = are_entries d ls v
are_entries d (Note cs ∷ ls) v = are_entries d ls (and_parts _ _ v).1
are_entries d (Word s ss ∷ ls) v =
    let p = and_parts (is_lexeme (Word s ss) && may_precede (Word s ss) ls) (are_lexemes ls) v in
    more_token (lexeme_bytes (Word s ss)) (entries d ls) (one_token
    (record { lexeme = Word s ss; is_one = refl; valid = (and_parts (is_lexeme (Word s ss)) (may_precede (Word s ss) ls) p.0).0; spelled = refl })) (are_entries d ls p.1)
are_entries d (Quote ss ∷ ls) v =
    let p = and_parts (is_lexeme (Quote ss) && true) (are_lexemes ls) v in
    more_token (lexeme_bytes (Quote ss)) (entries d ls) (one_token (record { lexeme = Quote ss; is_one = refl; valid = (and_parts (is_lexeme (Quote ss)) true p.0).0; spelled = refl })) (are_entries d ls p.1)

formed_tokens : (ts : List (List ℕ)) (steps : List Step) → AreTokens ts → IsWellFormed steps → IsWellFormed (tokens ts ++ steps)
formed_tokens [] steps a w = w
formed_tokens (t ∷ ts) steps a w = let more = formed_tokens ts steps a.1 w in (more.0, (a.0, more.1))

formed : (e : Entries) → AreEntries e → IsWellFormed (document_of e)
formed [] a = (refl, tt)
formed (ts ∷ []) a = subst IsWellFormed (append-nil (tokens ts)) (formed_tokens ts [] a (refl, tt))
formed (ts ∷ us ∷ es) a = let more = formed (us ∷ es) a.1 in formed_tokens ts (newline ∷ document_of (us ∷ es)) a.0 (more.0, (tt, more.1))

-- tokens before a document join its first entry
abbrev join : List (List ℕ) → Entries → Entries
join [] e = e
join (t ∷ ts) e = with_token t (join ts e)

entries_tokens : (ts : List (List ℕ)) (steps : List Step) → document_entries (tokens ts ++ steps) ≡ join ts (document_entries steps)
entries_tokens [] steps = refl
entries_tokens (t ∷ ts) steps = ap (with_token t) (entries_tokens ts steps)

join_first : (ts : List (List ℕ)) (e : Entries) → join ts ([] ∷ e) ≡ ts ∷ e
join_first [] e = refl
join_first (t ∷ ts) e = ap (with_token t) (join_first ts e)

back : (e : Entries) → AreEntries e → document_entries (document_of e) ≡ e
back [] a = absurd a
back (ts ∷ []) a = ap document_entries (sym (append-nil (tokens ts))) ∙ entries_tokens ts [] ∙ join_first ts []
back (ts ∷ us ∷ es) a = entries_tokens ts (newline ∷ document_of (us ∷ es)) ∙ join_first ts _ ∙ ap (λ x. ts ∷ x) (back (us ∷ es) a.1)

pub split_entries : (text : List ℕ) (e : Entries) → Splits text e → AreEntries e
split_entries text e s = subst AreEntries s.cut (are_entries 0 s.lexemes s.valid)

-- the tokens of such entries are a well-formed document
pub normal_formed : (text : List ℕ) (e : Entries) → Splits text e → IsWellFormed (document_of e)
normal_formed text e s = formed e (split_entries text e s)

-- its simple layout splits alike
pub normal_splits : (text : List ℕ) (e : Entries) → Splits text e → Splits (layout simple_piece (document_of e)) e
normal_splits text e s = subst (Splits (layout simple_piece (document_of e))) (back e (split_entries text e s)) (simple_splits (document_of e) (normal_formed text e s))

-- and is the same exactly for the same entries
pub normal_same : (text other : List ℕ) (e f : Entries) → Splits text e → Splits other f → layout simple_piece (document_of e) ≡ layout simple_piece (document_of f) → e ≡ f
normal_same text other e f s r same = one_way (layout simple_piece (document_of f)) e f (subst (λ x. Splits x e) same (normal_splits text e s)) (normal_splits other f r)

-- Paths and strings that are written octet by octet.
use Rattle.std.proofs.Common.{append-nil, ℕ, ◌-◌, ◌≡◌, ◌<◌, ◌≤◌, ◌+◌, Bool, true, false, List, [], ◌∷◌, ◌++◌, length, refl, sym, ap, ◌∙◌, arith, get_or, take, drop, drop-cons, add-one}
use Rattle.std.specs.Prelude.{◌==◌, if◌then◌else◌, Option, None, Some}
use Rattle.std.proofs.lemmas.List.{append_assoc, drop-drop, drop_all, take_rest}
use Rattle.dns_octets.specs.Appending.{Extends}
use Rattle.server_config.specs.Lexemes.{backslash_sign}
use Rattle.server_config.specs.Strings.{escape_text, octet_after_backslash, unescaped}
use Rattle.server_config.specs.ZonePaths.{expanded_path, place_after, path_place_text, replaced_or}
use Rattle.server_config.specs.declared.zone_path.PathPlace.{PathPlace}

-- more octets are appended
pub extends_on : (old middle new more : List ℕ) → Extends old middle → new ≡ middle ++ more → Extends old new
extends_on old middle new more e is = (e.0 ++ more, is ∙ ap (λ l. l ++ more) e.1 ∙ append_assoc old e.0 more)

pub extends_none : (old : List ℕ) → Extends old old
extends_none old = ([], sym (append-nil old))

pub rest_cons : (text : List ℕ) (at : ℕ) → at < length text → drop at text ≡ get_or text at 0 ∷ drop (at + 1) text
rest_cons text at lt = drop-cons text at 0 lt ∙ ap (λ n. get_or text at 0 ∷ drop n text) (sym (add-one at))

-- the first octet of a path, and what follows
expanded_first : (name : List ℕ) (c : ℕ) (rest : List ℕ) → expanded_path name (c ∷ rest) ≡ replaced_or name c (place_after c rest) (expanded_path name (drop 1 rest)) (expanded_path name rest)
expanded_first name c [] = refl
expanded_first name c (d ∷ rest) = refl

module _ (name path : List ℕ) (at : ℕ) (lt : at < length path) where
  expanded_rest : (place : Option PathPlace) → place_after (get_or path at 0) (drop (at + 1) path) ≡ place
      → expanded_path name (drop at path) ≡ replaced_or name (get_or path at 0) place (expanded_path name (drop (at + 2) path)) (expanded_path name (drop (at + 1) path))
  expanded_rest place is =
      let c = get_or path at 0 in
      let rest = drop (at + 1) path in
      let two : drop 1 rest ≡ drop (at + 2) path = drop-drop 1 (at + 1) path ∙ ap (λ n. drop n path) {x = at + 1 + 1} {y = at + 2} (omega arith) in
      ap (expanded_path name) (rest_cons path at lt) ∙ expanded_first name c rest
      ∙ ap (λ p. replaced_or name c p (expanded_path name (drop 1 rest)) (expanded_path name rest)) is ∙ ap (λ l. replaced_or name c place (expanded_path name l) (expanded_path name rest)) two

  pub place_replaced : (out new all : List ℕ) (place : PathPlace) → place_after (get_or path at 0) (drop (at + 1) path) ≡ Some place → new ≡ out ++ path_place_text name place
      → out ++ expanded_path name (drop at path) ≡ all → new ++ expanded_path name (drop (at + 2) path) ≡ all
  place_replaced out new all place is made so =
      let more = expanded_path name (drop (at + 2) path) in
      ap (λ l. l ++ more) made ∙ append_assoc out (path_place_text name place) more ∙ ap (λ l. out ++ l) (sym (expanded_rest (Some place) is)) ∙ so

  pub octet_kept : (out new all : List ℕ) → place_after (get_or path at 0) (drop (at + 1) path) ≡ None → new ≡ out ++ (get_or path at 0 ∷ [])
      → out ++ expanded_path name (drop at path) ≡ all → new ++ expanded_path name (drop (at + 1) path) ≡ all
  octet_kept out new all is made so =
      let more = expanded_path name (drop (at + 1) path) in
      ap (λ l. l ++ more) made ∙ append_assoc out (get_or path at 0 ∷ []) more ∙ ap (λ l. out ++ l) (sym (expanded_rest None is)) ∙ so

pub path_ended : (name path out all : List ℕ) (at : ℕ) → length path ≤ at → out ++ expanded_path name (drop at path) ≡ all → out ≡ all
path_ended name path out all at le so = sym (append-nil out) ∙ ap (λ l. out ++ expanded_path name l) (sym (drop_all at path le)) ∙ so

-- what a slice of the path has
pub place_read : (path : List ℕ) (c at : ℕ) (r s : Option PathPlace) → r ≡ place_after c (take (length path - at) (drop at path)) → r ≡ s → place_after c (drop at path) ≡ s
place_read path c at r s value is = sym (ap (place_after c) (take_rest path at)) ∙ sym value ∙ is

-- the first octet of a string, and what follows
escape_or : ℕ → Option ℕ → List ℕ → List ℕ → List ℕ
escape_or c (Some d) two one = escape_text c d ++ two
escape_or c None two one = c ∷ one

tested : (c d : ℕ) (two one : List ℕ) (b : Bool) → (if b then escape_text c d ++ two else c ∷ one) ≡ escape_or c (if b then Some d else None) two one
unfolding escape_or
tested c d two one true = refl
tested c d two one false = refl

unescaped_first : (c : ℕ) (rest : List ℕ) → unescaped (c ∷ rest) ≡ escape_or c (octet_after_backslash c rest) (unescaped (drop 1 rest)) (unescaped rest)
unfolding escape_or
unescaped_first c [] = refl
unescaped_first c (d ∷ rest) = tested c d (unescaped rest) (unescaped (d ∷ rest)) (c == backslash_sign)

module _ (text : List ℕ) (at : ℕ) (lt : at < length text) where
  unescaped_rest : (octet : Option ℕ) → octet_after_backslash (get_or text at 0) (drop (at + 1) text) ≡ octet
      → unescaped (drop at text) ≡ escape_or (get_or text at 0) octet (unescaped (drop (at + 2) text)) (unescaped (drop (at + 1) text))
  unescaped_rest octet is =
      let c = get_or text at 0 in
      let rest = drop (at + 1) text in
      let two : drop 1 rest ≡ drop (at + 2) text = drop-drop 1 (at + 1) text ∙ ap (λ n. drop n text) {x = at + 1 + 1} {y = at + 2} (omega arith) in
      ap unescaped (rest_cons text at lt) ∙ unescaped_first c rest
      ∙ ap (λ o. escape_or c o (unescaped (drop 1 rest)) (unescaped rest)) is ∙ ap (λ l. escape_or c octet (unescaped l) (unescaped rest)) two

  pub escape_passed : (out new all : List ℕ) (d : ℕ) → octet_after_backslash (get_or text at 0) (drop (at + 1) text) ≡ Some d → new ≡ out ++ escape_text (get_or text at 0) d
      → out ++ unescaped (drop at text) ≡ all → new ++ unescaped (drop (at + 2) text) ≡ all
  unfolding escape_or
  escape_passed out new all d is made so =
      let more = unescaped (drop (at + 2) text) in
      ap (λ l. l ++ more) made ∙ append_assoc out (escape_text (get_or text at 0) d) more ∙ ap (λ l. out ++ l) (sym (unescaped_rest (Some d) is)) ∙ so

  pub octet_passed : (out new all : List ℕ) → octet_after_backslash (get_or text at 0) (drop (at + 1) text) ≡ None → new ≡ out ++ (get_or text at 0 ∷ [])
      → out ++ unescaped (drop at text) ≡ all → new ++ unescaped (drop (at + 1) text) ≡ all
  unfolding escape_or
  octet_passed out new all is made so =
      let more = unescaped (drop (at + 1) text) in
      ap (λ l. l ++ more) made ∙ append_assoc out (get_or text at 0 ∷ []) more ∙ ap (λ l. out ++ l) (sym (unescaped_rest None is)) ∙ so

pub string_ended : (text out all : List ℕ) (at : ℕ) → length text ≤ at → out ++ unescaped (drop at text) ≡ all → out ≡ all
string_ended text out all at le so = sym (append-nil out) ∙ ap (λ l. out ++ unescaped l) (sym (drop_all at text le)) ∙ so

pub octet_read : (text : List ℕ) (c at : ℕ) (r s : Option ℕ) → r ≡ octet_after_backslash c (take (length text - at) (drop at text)) → r ≡ s → octet_after_backslash c (drop at text) ≡ s
octet_read text c at r s value is = sym (ap (octet_after_backslash c) (take_rest text at)) ∙ sym value ∙ is

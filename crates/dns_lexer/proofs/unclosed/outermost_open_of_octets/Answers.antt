use Rattle.std.proofs.Common.{◌≡◌, ℕ, ◌+◌, ◌<◌, Bool, true, false, List, [], ◌∷◌, ◌++◌, length, take, drop, get_or, take_all, refl, sym, ap, ◌∙◌, subst, arith}
use Rattle.std.specs.Prelude.{Some, encode_utf8, encode_utf8_all}
use Rattle.std.proofs.lemmas.List.{take_more, drop_more, take-append-drop}
use Rattle.std.proofs.lemmas.Str.{encodes-append}
use lib.Utf8.{scalars}
use Rattle.dns_lexer.specs.declared.reader.Mode.TheVariants.{Outside}
use Rattle.dns_lexer.specs.Reader.{step}
use Rattle.dns_lexer.specs.Pieces.{place_of}
use Rattle.dns_lexer.specs.Run.{may_end_line}
use Rattle.dns_lexer.proofs.Agree.{small_scalars}
use Rattle.dns_lexer.proofs.Steps.{step_depth}
use Rattle.dns_lexer.proofs.Viable.{walk}
use Rattle.dns_lexer.proofs.Openers.{Opened, one_walked, first_opened, still_opened, opener, left_open, not_refused, not_open}
use Rattle.dns_lexer.proofs.unclosed.outermost_open_of_octets.Goals.{then-depth-eq0, else-depth-eq0, else-depth-gt0-via-then-depth-gt0+else-may_end_line, else-depth-gt0-via-else-depth-gt0}
use Rattle.dns_lexer.proofs.unclosed.outermost_open_of_octets.Goals as goal

both_ways : (b : Bool) → b ≡ true → b ≡ false → ⊥
both_ways b h k = cc

-- octets, one of them, and the rest
parted : (octets : List ℕ) (i : ℕ) → i < length octets → encode_utf8_all (take i octets) ++ (encode_utf8 (get_or octets i 0) ++ encode_utf8_all (drop (i + 1) octets)) ≡ encode_utf8_all octets
parted octets i h =
    sym (encodes-append (take i octets) (get_or octets i 0 ∷ drop (i + 1) octets)) ∙ ap (λ l. encode_utf8_all (take i octets ++ l)) (sym (drop_more octets i 0 h))
    ∙ ap encode_utf8_all (take-append-drop i octets)

pub returns-in_default-clause-left_open : goal.returns-in_default-clause-left_open
returns-in_default-clause-left_open c =
    let inv = c.loop-octet.invariant in
    let octets = c.args.octets.now in
    let i : ℕ = c.loop-octet.octet-index in
    let ok : scalars octets ≡ true = small_scalars octets (λ k. (c.type_inv.octets k).fits) in
    let stop = ap (step c.loop-octet.mode c.loop-octet.depth) (sym c.from.ensures) ∙ sym c.step.ensures ∙ c.in_default.is in (
      λ h. cc,
      λ w. elim (not_refused (encode_utf8_all octets) (take i octets) (encode_utf8_all (drop (i + 1) octets)) (get_or octets i 0) c.loop-octet.mode c.loop-octet.depth (octets, (ok, refl))
          (parted octets i (omega arith)) inv.walked stop w) [ ],
    )

pub loop-octet-preserved : goal.loop-octet-preserved
loop-octet-preserved c =
    let inv = c.loop-octet.invariant in
    let octets = c.args.octets.now in
    let i : ℕ = c.loop-octet.octet-index in
    let ys : List ℕ = take i octets in
    let ch : ℕ = get_or octets i 0 in
    let m = c.loop-octet.mode in
    let depth : ℕ = c.loop-octet.depth in
    let v = c.in-Some.next in
    let room : i < length octets = omega arith in
    let more : take (i + 1) octets ≡ ys ++ ch ∷ [] = take_more octets i 0 room in
    let went = ap (step m depth) (sym c.from.ensures) ∙ sym c.step.ensures ∙ c.in-Some.is in
    let deeper = step_depth m depth ch v went in
    record {
      place = omega (arith, inv.place);
      deep = omega (arith, deeper, inv.deep);
      walked = subst (λ l. walk Outside 0 l ≡ Some (v.mode, v.depth)) (sym more) (one_walked ys ch m depth v inv.walked went);
      before = λ p. elim c.if-depth-eq0.branch [
        | then-depth-eq0 w ↦ omega (arith, w.opened-is)
        | else-depth-eq0 w ↦ omega (arith, w.opened-is, inv.before (omega (arith, w.if-depth-eq0.false)))
      ];
      opens = λ p. subst (λ l. Opened l (place_of octets c.if-depth-eq0.opened)) (sym more) (elim c.if-depth-eq0.branch [
        | then-depth-eq0 w ↦ rw w.opened-is (subst (λ n. Opened (ys ++ ch ∷ []) (place_of octets n)) (sym inv.place)
            (first_opened ys ch m depth v (place_of octets i) w.if-depth-eq0.true inv.walked went refl p))
        | else-depth-eq0 w ↦ rw w.opened-is (still_opened ys ch m depth v (place_of octets c.loop-octet.opened) inv.walked went (inv.opens (omega (arith, w.if-depth-eq0.false))) p)
      ]);
    }

pub returns-then-may_end_line-clause-place : goal.returns-then-may_end_line-clause-place
returns-then-may_end_line-clause-place c =
    let inv = c.loop-octet.invariant in
    let octets = c.args.octets.now in
    let all : take c.loop-octet.octet-index octets ≡ octets = take_all c.loop-octet.octet-index octets (omega arith) in
    let ok : scalars octets ≡ true = small_scalars octets (λ k. (c.type_inv.octets k).fits) in
    opener (encode_utf8_all octets) octets (place_of octets c.loop-octet.opened) refl ok
    (subst (λ l. Opened l (place_of octets c.loop-octet.opened)) all (inv.opens (omega (arith, c.if-depth-gt0.true))))

pub returns-then-may_end_line-clause-left_open : goal.returns-then-may_end_line-clause-left_open
returns-then-may_end_line-clause-left_open c =
    let inv = c.loop-octet.invariant in
    let octets = c.args.octets.now in
    let all : take c.loop-octet.octet-index octets ≡ octets = take_all c.loop-octet.octet-index octets (omega arith) in
    let ok : scalars octets ≡ true = small_scalars octets (λ k. (c.type_inv.octets k).fits) in
    let walked = subst (λ l. walk Outside 0 l ≡ Some (c.loop-octet.mode, c.loop-octet.depth)) all inv.walked in (
      λ h. left_open octets c.loop-octet.mode c.loop-octet.depth ok walked (omega (arith, c.if-depth-gt0.true)) (sym c.may_end_line.ensures ∙ c.if-may_end_line.true),
      λ w. refl,
    )

pub returns-else-depth-gt0-clause-left_open : goal.returns-else-depth-gt0-clause-left_open
returns-else-depth-gt0-clause-left_open c =
    let inv = c.loop-octet.invariant in
    let octets = c.args.octets.now in
    let all : take c.loop-octet.octet-index octets ≡ octets = take_all c.loop-octet.octet-index octets (omega arith) in
    let walked = subst (λ l. walk Outside 0 l ≡ Some (c.loop-octet.mode, c.loop-octet.depth)) all inv.walked in
    let shut : 0 < c.loop-octet.depth → may_end_line c.loop-octet.mode ≡ true → ⊥ = elim c.else-depth-gt0.branch [
      | else-depth-gt0-via-then-depth-gt0+else-may_end_line w ↦ λ p f. both_ways (may_end_line c.loop-octet.mode) f (sym w.may_end_line.ensures ∙ w.if-may_end_line.false)
      | else-depth-gt0-via-else-depth-gt0 w ↦ λ p f. absurd (omega (arith, p, w.if-depth-gt0.false))
    ] in
    (λ h. cc, λ w. elim (not_open octets c.loop-octet.mode c.loop-octet.depth walked shut w) [ ])

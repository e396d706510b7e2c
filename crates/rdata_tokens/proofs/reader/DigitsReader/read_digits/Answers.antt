use Rattle.std.proofs.Common.{◌≡◌, ◌∙◌, ◌∷◌, [], ◌++◌, List, ℕ, suc, ap, sym, subst, take, drop, get_or}
use Rattle.std.proofs.Math.Seq.{drop-cons}
use Rattle.std.proofs.lemmas.List.{take_more, take-append-drop, append_assoc}
use Rattle.std.proofs.lemmas.Result.{err_from_is_err_and}
use Rattle.rdata_tokens.specs.Reading.{RefusesPiece, AcceptsPiece}
use Rattle.rdata_tokens.proofs.Pieces.{takes_on, refuses_front, refuses_behind}
use Rattle.rdata_tokens.proofs.reader.DigitsReader.read_digits.Goals as goal

pub returns-in_err-read_digit-clause-err : goal.returns-in_err-read_digit-clause-err
returns-in_err-read_digit-clause-err g c =
    let p = err_from_is_err_and c.from_residual.result c.from_residual.ensures.1 in
    let xs : List ℕ = c.args.digits.now in
    let i : ℕ = c.loop-digit.digit-index in
    let d : ℕ = get_or xs i 0 in
    let before = c.loop-digit.invariant in
    let old : List ℕ = g.B.AsOctets.octets c.args.target.now in
    let parts : take i xs ++ (d ∷ drop (suc i) xs) ≡ xs = ap (λ t. take i xs ++ t) (sym (drop-cons xs i 0 c.loop-digit-test.true)) ∙ take-append-drop i xs in
    let room = g.B.OctetsBuilder.room in
    let behind = refuses_behind room c.args.self.now c.loop-digit.self (take i xs) (d ∷ drop (suc i) xs) before.0 old (g.B.AsOctets.octets c.loop-digit.target) c.in_err-read_digit.field-0.0
    before.1 before.2 (refuses_front room c.loop-digit.self (d ∷ []) (drop (suc i) xs) (g.B.AsOctets.octets c.loop-digit.target) c.in_err-read_digit.field-0.0 c.in_err-read_digit.ensures.err) in
    rw (p.1, p.2) (subst (λ t. RefusesPiece room c.args.self.now t old c.in_err-read_digit.field-0.0) parts behind)

pub loop-digit-preserved : goal.loop-digit-preserved
loop-digit-preserved g c =
    let xs : List ℕ = c.args.digits.now in
    let i : ℕ = c.loop-digit.digit-index in
    let d : ℕ = get_or xs i 0 in
    let before = c.loop-digit.invariant in
    let step = c.in_ok-read_digit.ensures.ok in
    let on = takes_on c.args.self.now c.loop-digit.self c.read_digit.new.self (take i xs) (d ∷ []) before.0 step.0 before.1 step.1 in (
      before.0 ++ step.0,
      subst (λ t. AcceptsPiece c.args.self.now t (before.0 ++ step.0) c.read_digit.new.self) (sym (take_more xs i 0 c.loop-digit-test.true)) on,
      step.2 ∙ (ap (λ t. t ++ step.0) before.2 ∙ append_assoc (g.B.AsOctets.octets c.args.target.now) before.0 step.0),
    )

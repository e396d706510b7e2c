use Rattle.std.proofs.Common.{◌≡◌, ◌∙◌, ◌++◌, List, ℕ, ◌-◌, length, ap, subst, take, drop}
use Rattle.std.proofs.lemmas.List.{take-append-drop}
use Rattle.std.proofs.lemmas.Result.{err_from_is_err_and}
use Rattle.rdata_tokens.specs.Reading.{RefusesPiece, AcceptsPiece}
use Rattle.rdata_tokens.proofs.Pieces.{refuses_front, refuses_middle, refuses_last, rest_of, extends_on, takes_three, gains_three, ok_then, err_then, error_then}
use Rattle.rdata_tokens.proofs.reader.DigitsReader.push_parts.Goals as goal

pub returns-in_err-read_digits-clause-err : goal.returns-in_err-read_digits-clause-err
returns-in_err-read_digits-clause-err g c =
    let p = err_from_is_err_and c.from_residual.result c.from_residual.ensures.1 in
    let room = g.B.OctetsBuilder.room in
    let old : List ℕ = g.B.AsOctets.octets c.args.target.now in
    let front : List ℕ = c.split_at.result.0.now in
    let rest : List ℕ = c.split_at.result.1.now in
    let whole : front ++ rest ≡ c.args.piece.now = rw (c.split_at.ensures.front, c.split_at.ensures.back) (take-append-drop c.min.result c.args.piece.now) in
    rw (p.1, p.2) (subst (λ z. RefusesPiece room c.args.self.now z old c.in_err-read_digits.field-0.0) whole
    (refuses_front room c.args.self.now front rest old c.in_err-read_digits.field-0.0 c.in_err-read_digits.ensures.err))

pub returns-in_err-count-clause-err : goal.returns-in_err-count-clause-err
returns-in_err-count-clause-err g c =
    let p = err_from_is_err_and c.from_residual-in_err-count.result c.from_residual-in_err-count.ensures.1 in
    let room = g.B.OctetsBuilder.room in
    let old : List ℕ = g.B.AsOctets.octets c.args.target.now in
    let front : List ℕ = c.split_at.result.0.now in
    let rest : List ℕ = c.split_at.result.1.now in
    let whole : front ++ rest ≡ c.args.piece.now = rw (c.split_at.ensures.front, c.split_at.ensures.back) (take-append-drop c.min.result c.args.piece.now) in
    let one = c.in_ok-read_digits.ensures.ok in
    rw (p.1, p.2) (refuses_middle room c.args.self.now c.read_digits.new.self front rest c.args.piece.now one.0 old (g.B.AsOctets.octets c.read_digits.new.target) c.in_err-count.field-0.0 one.1 one.2 whole
    c.in_err-count.ensures.err)

pub returns-in_err-count-clause-extends : goal.returns-in_err-count-clause-extends
returns-in_err-count-clause-extends g c =
    let p = err_from_is_err_and c.from_residual-in_err-count.result c.from_residual-in_err-count.ensures.1 in
    let one = c.in_ok-read_digits.ensures.ok in
    rw p.1 (extends_on (g.B.AsOctets.octets c.args.target.now) (g.B.AsOctets.octets c.read_digits.new.target) (g.B.AsOctets.octets c.read_whole_groups.new.target) one.0 one.2 c.in_err-count.ensures.extends)

pub returns-clause-ok : goal.returns-clause-ok
returns-clause-ok g c =
    let room = g.B.OctetsBuilder.room in
    let old : List ℕ = g.B.AsOctets.octets c.args.target.now in
    let front : List ℕ = c.split_at.result.0.now in
    let rest : List ℕ = c.split_at.result.1.now in
    let whole : front ++ rest ≡ c.args.piece.now = rw (c.split_at.ensures.front, c.split_at.ensures.back) (take-append-drop c.min.result c.args.piece.now) in
    let one = c.in_ok-read_digits.ensures.ok in
    let two = c.in_ok-count.ensures.ok.1 in
    let n : ℕ = c.in_ok-count.count in
    let last : List ℕ = take (length rest - n) (drop n rest) in
    let parts : front ++ (take n rest ++ last) ≡ c.args.piece.now = ap (λ t. front ++ (take n rest ++ t)) (rest_of n rest) ∙ (ap (λ t. front ++ t) (take-append-drop n rest) ∙ whole) in
    ok_then c.read_digits-2.result _ _ (λ (three : (w : List ℕ) × AcceptsPiece c.read_digits.new.self last w c.read_digits-2.new.self × (g.B.AsOctets.octets c.read_digits-2.new.target ≡ g.B.AsOctets.octets c.read_whole_groups.new.target ++ w)). (
      one.0 ++ (two.0 ++ three.0),
      takes_three c.args.self.now c.read_digits.new.self c.read_digits-2.new.self front (take n rest) last c.args.piece.now one.0 two.0 three.0 one.1 two.1 three.1 parts,
      gains_three old (g.B.AsOctets.octets c.read_digits.new.target) (g.B.AsOctets.octets c.read_whole_groups.new.target) (g.B.AsOctets.octets c.read_digits-2.new.target) one.0 two.0 three.0 one.2 two.2 three.2,
    )) c.read_digits-2.ensures.ok

pub returns-clause-err : goal.returns-clause-err
returns-clause-err g c =
    let room = g.B.OctetsBuilder.room in
    let old : List ℕ = g.B.AsOctets.octets c.args.target.now in
    let front : List ℕ = c.split_at.result.0.now in
    let rest : List ℕ = c.split_at.result.1.now in
    let whole : front ++ rest ≡ c.args.piece.now = rw (c.split_at.ensures.front, c.split_at.ensures.back) (take-append-drop c.min.result c.args.piece.now) in
    let one = c.in_ok-read_digits.ensures.ok in
    let two = c.in_ok-count.ensures.ok.1 in
    let n : ℕ = c.in_ok-count.count in
    let last : List ℕ = take (length rest - n) (drop n rest) in
    let parts : front ++ (take n rest ++ last) ≡ c.args.piece.now = ap (λ t. front ++ (take n rest ++ t)) (rest_of n rest) ∙ (ap (λ t. front ++ t) (take-append-drop n rest) ∙ whole) in
    error_then c.read_digits-2.result _ _ (λ e h. refuses_last room c.args.self.now c.read_digits.new.self front (take n rest) last c.args.piece.now one.0 two.0 old (g.B.AsOctets.octets c.read_digits.new.target)
    (g.B.AsOctets.octets c.read_whole_groups.new.target) e one.1 two.1 one.2 two.2 parts h) c.read_digits-2.ensures.err

pub returns-clause-extends : goal.returns-clause-extends
returns-clause-extends g c =
    let old : List ℕ = g.B.AsOctets.octets c.args.target.now in
    let one = c.in_ok-read_digits.ensures.ok in
    let two = c.in_ok-count.ensures.ok.1 in
    err_then c.read_digits-2.result _ _ (λ e. extends_on old (g.B.AsOctets.octets c.read_digits.new.target) (g.B.AsOctets.octets c.read_digits-2.new.target) one.0 one.2
    (extends_on (g.B.AsOctets.octets c.read_digits.new.target) (g.B.AsOctets.octets c.read_whole_groups.new.target) (g.B.AsOctets.octets c.read_digits-2.new.target) two.0 two.2 e)) c.read_digits-2.ensures.extends

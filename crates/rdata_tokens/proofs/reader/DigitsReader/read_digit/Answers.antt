use Rattle.std.proofs.Common.{◌<◌, set, ◌≤◌, ◌+◌, ◌∷◌, [], ◌++◌, List, ℕ, sym, subst, take, refl, append-nil}
use Rattle.std.proofs.lemmas.List.{take_more_set, length-take-le}
use Rattle.dns_codec.proofs.Fronts.{at_no_err}
use Rattle.rdata_tokens.specs.Spelled.{SpellsDigits, base_of}
use Rattle.rdata_tokens.specs.Reading.{DigitsState, RefusesPiece, AcceptsPiece}
use Rattle.rdata_values.specs.declared.error.ErrorKind.TheVariants.{ShortBuf}
use Rattle.rdata_tokens.proofs.TakenDigit.{held_within, whole_group, few_begun, few_digits, not_ok, none_on, digit_illegal, digit_short, digit_begun, digit_closed}
use Rattle.rdata_tokens.proofs.reader.DigitsReader.read_digit.Goals as goal

pub returns-then-not-starts_group-clause-err : goal.returns-then-not-starts_group-clause-err
returns-then-not-starts_group-clause-err g c =
    let i = c.self.inside in
    let s : DigitsState = record { kind = i.kind; begun = take i.count i.held; ended = i.ended } in
    let text = take_more_set i.held i.count c.args.digit (held_within i.kind i.held i.count c.self.invariant.0 c.self.told) in
    let old : List ℕ = g.B.AsOctets.octets c.args.target.now in
    subst (λ (s : DigitsState). RefusesPiece g.B.OctetsBuilder.room s (c.args.digit ∷ []) old c.illegal.result) c.self.view_is
    (digit_illegal g.B.OctetsBuilder.room s c.args.digit old c.illegal.result c.illegal.ensures c.if-self.false (few_digits i.kind i.held i.count c.args.digit c.self.invariant.0 c.self.told)
    (λ rest v spelled. c.if-not-starts_group.ensures rest v (subst (λ t. SpellsDigits (base_of i.kind) (t ++ rest) v) (sym text) spelled)))

pub returns-then-count-group-clause-ok : goal.returns-then-count-group-clause-ok
returns-then-count-group-clause-ok g c =
    let i = c.self.inside in
    let s : DigitsState = record { kind = i.kind; begun = take i.count i.held; ended = i.ended } in
    let n : DigitsState = record { kind = i.kind; begun = take (i.count + 1) (set i.held i.count c.args.digit); ended = i.ended } in
    let text = take_more_set i.held i.count c.args.digit (held_within i.kind i.held i.count c.self.invariant.0 c.self.told) in
    let starts = c.if-not-starts_group.ensures in
    let more : i.count + 1 < (base_of i.kind).group = rw c.group.ensures at c.if-count-group.true in
    let few = few_begun i.kind i.held i.count c.args.digit c.self.invariant.0 c.self.told more in
    ([], subst (λ (s : DigitsState). AcceptsPiece s (c.args.digit ∷ []) [] n) c.self.view_is (digit_begun s n c.args.digit refl c.if-self.false starts.0 starts.1 c.if-self.false text few starts.2), sym (append-nil _))

pub returns-in_default-clause-err : goal.returns-in_default-clause-err
returns-in_default-clause-err g c =
    let i = c.self.inside in
    let s : DigitsState = record { kind = i.kind; begun = take i.count i.held; ended = i.ended } in
    let text = take_more_set i.held i.count c.args.digit (held_within i.kind i.held i.count c.self.invariant.0 c.self.told) in
    let old : List ℕ = g.B.AsOctets.octets c.args.target.now in
    let none = c.in_default.ensures in
    let full : (base_of i.kind).group ≤ i.count + 1 = rw c.group.ensures at c.if-count-group.false in
    let whole = whole_group i.kind i.held i.count c.args.digit c.self.invariant.0 c.self.told full in
    subst (λ (s : DigitsState). RefusesPiece g.B.OctetsBuilder.room s (c.args.digit ∷ []) old c.illegal-in_default.result) c.self.view_is
    (digit_illegal g.B.OctetsBuilder.room s c.args.digit old c.illegal-in_default.result c.illegal-in_default.ensures c.if-self.false (few_digits i.kind i.held i.count c.args.digit c.self.invariant.0 c.self.told)
    (none_on i.kind (take i.count i.held ++ c.args.digit ∷ []) whole (λ v spelled. none v (subst (λ t. SpellsDigits (base_of i.kind) t v) (sym text) spelled))))

pub returns-then-is_err-clause-err : goal.returns-then-is_err-clause-err
returns-then-is_err-clause-err g c =
    let i = c.self.inside in
    let s : DigitsState = record { kind = i.kind; begun = take i.count i.held; ended = i.ended } in
    let text = take_more_set i.held i.count c.args.digit (held_within i.kind i.held i.count c.self.invariant.0 c.self.told) in
    let old : List ℕ = g.B.AsOctets.octets c.args.target.now in
    let read = c.in-Some.ensures in
    let u : List ℕ = take c.in-Some.length c.read_group.new.octets in
    let full : (base_of i.kind).group ≤ i.count + 1 = rw c.group.ensures at c.if-count-group.false in
    let whole = whole_group i.kind i.held i.count c.args.digit c.self.invariant.0 c.self.told full in
    subst (λ (s : DigitsState). RefusesPiece g.B.OctetsBuilder.room s (c.args.digit ∷ []) old ShortBuf) c.self.view_is
    (digit_short g.B.OctetsBuilder.room s c.args.digit old u c.if-self.false whole (subst (λ t. SpellsDigits (base_of i.kind) t u) text read.0)
    (λ fits. not_ok c.append_slice.result c.if-is_err.ensures.value (c.append_slice.ensures.fits fits)))

pub returns-clause-ok : goal.returns-clause-ok
returns-clause-ok g c =
    let i = c.self.inside in
    let s : DigitsState = record { kind = i.kind; begun = take i.count i.held; ended = i.ended } in
    let n : DigitsState = record { kind = i.kind; begun = []; ended = c.opens_group-self-inside.result } in
    let text = take_more_set i.held i.count c.args.digit (held_within i.kind i.held i.count c.self.invariant.0 c.self.told) in
    let read = c.in-Some.ensures in
    let u : List ℕ = take c.in-Some.length c.read_group.new.octets in
    let full : (base_of i.kind).group ≤ i.count + 1 = rw c.group.ensures at c.if-count-group.false in
    let whole = whole_group i.kind i.held i.count c.args.digit c.self.invariant.0 c.self.told full in
    let ended = c.opens_group-self-inside.ensures u (length-take-le c.in-Some.length c.read_group.new.octets read.1) in (
      u,
      subst (λ (s : DigitsState). AcceptsPiece s (c.args.digit ∷ []) u n) c.self.view_is (digit_closed s n c.args.digit refl c.if-self.false u refl ended whole (subst (λ t. SpellsDigits (base_of i.kind) t u) text read.0)),
      at_no_err c.append_slice.result _ (sym c.if-is_err.ensures.value) c.append_slice.ensures.ok,
    )

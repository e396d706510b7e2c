-- The parts of a finding's line, appended one after another.
use Rattle.std.proofs.Common.{◌≡◌, ℕ, Bool, true, List, ◌++◌}
use Rattle.std.specs.Prelude.{Result, OnOk, codes}
use Rattle.finding_formats.specs.declared.finding.Finding.{Finding}
use Rattle.finding_formats.specs.Lines.{bracketed_code, finding_line, opened_text, place_text, severity_text, subject_text}
use Rattle.finding_formats.specs.Shown.{shown_text}
use Rattle.finding_formats.proofs.Appending.{append_last, append_more}

pub whole_line : {T E : Type 0} (r : Result T E) (is_coloured : Bool) (f : Finding) (old t1 t2 t3 t4 t5 t6 new : List ℕ) → t1 ≡ old ++ place_text is_coloured f.file.now f.position → t2 ≡ t1 ++ severity_text is_coloured f.severity
    → t3 ≡ t2 ++ subject_text f.owner f.rtype → t4 ≡ t3 ++ shown_text true f.message.now → t5 ≡ t4 ++ opened_text f.opened → t6 ≡ t5 ++ bracketed_code f.code → OnOk r (new ≡ t6 ++ codes "\n") → OnOk r (new ≡ old ++ finding_line is_coloured f)
whole_line r is_coloured f old t1 t2 t3 t4 t5 t6 new e1 e2 e3 e4 e5 e6 e7 =
    let place : List ℕ = place_text is_coloured f.file.now f.position in
    let severity : List ℕ = place ++ severity_text is_coloured f.severity in
    let subject : List ℕ = severity ++ subject_text f.owner f.rtype in
    let message : List ℕ = subject ++ shown_text true f.message.now in
    let two = append_more old place t1 (severity_text is_coloured f.severity) t2 e1 e2 in
    let three = append_more old severity t2 (subject_text f.owner f.rtype) t3 two e3 in
    let four = append_more old subject t3 (shown_text true f.message.now) t4 three e4 in
    let five = append_more old message t4 (opened_text f.opened) t5 four e5 in
    let opened : List ℕ = message ++ opened_text f.opened in
    let six = append_more old opened t5 (bracketed_code f.code) t6 five e6 in
    append_last r old (opened ++ bracketed_code f.code) t6 (codes "\n") new six e7

-- the line of a finding, and those after it
pub all_lines : {T E : Type 0} (r : Result T E) (old a t1 b t2 c new : List ℕ) → t1 ≡ old ++ a → t2 ≡ t1 ++ b → OnOk r (new ≡ t2 ++ c) → OnOk r (new ≡ old ++ ((a ++ b) ++ c))
all_lines r old a t1 b t2 c new e1 e2 e3 = append_last r old (a ++ b) t2 c new (append_more old a t1 b t2 e1 e2) e3

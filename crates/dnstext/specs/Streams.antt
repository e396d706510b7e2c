-- The contents of the streams after a run of the program.
use Rattle.std.specs.Prelude.{◌≡◌, ◌⊎◌, ℕ, List, [], Option, codes}
use Rattle.std.specs.Io.KnownBytes.{Appends, Keeps}
use Rattle.dnstext_lib.specs.Program.{refusal_line}
use Rattle.dnstext_lib.specs.Run.{IsUnknownCommand, RunPrinted, RunRefused}

-- the usage, which also has `--version`
abbrev pub usage_text : List ℕ
usage_text = codes "usage: dnstext scan|print|line KIND WORD..\n       dnstext --version\n"

-- the line that `--version` prints
abbrev pub version_line : List ℕ
version_line = codes "dnstext 0.3.0\n"

-- the known bytes of a stream grow by these
abbrev pub StreamGrows : Option (List ℕ) → List ℕ → Option (List ℕ) → Type 0
StreamGrows o bytes p = Appends o p bytes

-- what the arguments request was printed on a stream, which kept it
abbrev pub Printed : List (List ℕ) → Option (List ℕ) → Option (List ℕ) → Type 0
Printed words o p = (q : Option (List ℕ)) × RunPrinted StreamGrows words o q × Keeps q p

-- it failed for that reason, and the stream kept what was printed before
abbrev pub Refused : List (List ℕ) → Option (List ℕ) → Option (List ℕ) → List ℕ → Type 0
Refused words o p reason = (q : Option (List ℕ)) × RunRefused StreamGrows words o q reason × Keeps q p

-- it was printed, which has no line on standard error, or failed, which has this line
abbrev pub Ran : List (List ℕ) → Option (List ℕ) → Option (List ℕ) → List ℕ → Type 0
Ran words o p line =
    (Printed words o p × (line ≡ []))
    ⊎ ((reason : List ℕ) × Refused words o p reason × (line ≡ refusal_line reason))

-- the reason on standard error at status 1: that of the error; or, if the output failed at its end, `write failed` alone, whatever the run's own line was
abbrev pub ReportedReason : List (List ℕ) → Option (List ℕ) → Option (List ℕ) → List ℕ → Type 0
ReportedReason words o p reason =
    Refused words o p reason
    ⊎ (((line : List ℕ) × Ran words o p line) × (reason ≡ codes "write failed"))

-- it failed for a reason, and its line is on standard error
abbrev pub ReportsFailure : List (List ℕ) → Option (List ℕ) → Option (List ℕ) → Option (List ℕ) → Option (List ℕ) → Type 0
ReportsFailure words o p e f = (reason : List ℕ) × ReportedReason words o p reason × StreamGrows e (refusal_line reason) f

-- the arguments aren't a known command, and nothing was printed
abbrev pub PrintsNothing : List (List ℕ) → Option (List ℕ) → Option (List ℕ) → Type 0
PrintsNothing words o p = IsUnknownCommand words × Keeps o p

-- it ran, whatever line standard error was to have
abbrev pub HasRun : List (List ℕ) → Option (List ℕ) → Option (List ℕ) → Type 0
HasRun words o p = (line : List ℕ) × Ran words o p line

-- The effect of a run of the program, by its arguments.
use Rattle.std.specs.Prelude.{ℕ, List, map, ◌⊎◌}
use Rattle.dns_scan.specs.Tokens.{Token}
use Rattle.dns_zone.specs.Layout.{Step}
use Rattle.dns_zone.specs.declared.zonefile_fmt.DisplayKind.{DisplayKind}
use Rattle.dnstext_lib.specs.declared.program.ScanKind.{ScanKind}
use Rattle.dnstext_lib.specs.EntryLine.{Asked, field_word, IsLineCommand, LinePrinted, LineRefused}
use Rattle.dnstext_lib.specs.Print.{item_word, IsPrintCommand, DocumentPrinted, DocumentRefused}
use Rattle.dnstext_lib.specs.Program.{IsScanCommand, ScanPrinted, ScanRefused}

-- the arguments aren't a known command
pub record IsUnknownCommand (words : List (List ℕ)) : Type 0 where
  pub scan : (kind : ScanKind) (tokens : List Token) → IsScanCommand words kind tokens → ⊥
  pub print : (kind : DisplayKind) (steps : List Step) → IsPrintCommand words kind (map item_word steps) → ⊥
  pub line : (kind : DisplayKind) (asked : List Asked) → IsLineCommand words kind (map field_word asked) → ⊥

-- what the arguments request was printed
abbrev pub RunPrinted : {O : Type 0} → (O → List ℕ → O → Type 0) → List (List ℕ) → O → O → Type 0
RunPrinted took words o p =
    ((kind : ScanKind) × (tokens : List Token) × IsScanCommand words kind tokens × ScanPrinted took kind tokens o p)
    ⊎ (((kind : DisplayKind) × (steps : List Step) × IsPrintCommand words kind (map item_word steps) × DocumentPrinted took kind steps o p)
    ⊎ ((kind : DisplayKind) × (asked : List Asked) × IsLineCommand words kind (map field_word asked) × LinePrinted took kind asked o p))

-- it failed for that reason, and this is what was printed before
abbrev pub RunRefused : {O : Type 0} → (O → List ℕ → O → Type 0) → List (List ℕ) → O → O → List ℕ → Type 0
RunRefused took words o p reason =
    ((kind : ScanKind) × (tokens : List Token) × IsScanCommand words kind tokens × ScanRefused took kind tokens o p reason)
    ⊎ (((kind : DisplayKind) × (items : List (List ℕ)) × IsPrintCommand words kind items × DocumentRefused items o p reason)
    ⊎ ((kind : DisplayKind) × (fields : List (List ℕ)) × IsLineCommand words kind fields × LineRefused fields o p reason))

-- One finding a word: of two findings about one word of a file only the one whose code comes first is reported.
use Rattle.std.specs.Prelude.{ℕ, ◌≡◌, ◌==◌, ◌&&◌, ◌||◌, Bool, false, List, Option, None, Some, bytes_eq, codes, min, nat_lt, true, if◌then◌else◌}
use Rattle.std.specs.BTreeMap.{get}
use Rattle.std.specs.Ordering.{nat_cmp, ordering_then}
use Rattle.std.specs.declared.cmp.Ordering.{Ordering}
use Rattle.finding_codes.specs.declared.code.Code.{Code}
use Rattle.finding_codes.specs.declared.code.Code.TheVariants.{CnameTargetMissing, HighOctet, HostName, MissingDot, NsAddress, SoaMail, TargetAddress, TargetCname, TargetMissing, Unportable, WildcardInside}
use Rattle.finding_counts.specs.declared.word_ranks.CodeAtWord.{CodeAtWord}
use Rattle.finding_counts.specs.declared.word_ranks.WordRank.{WordRank}
use Rattle.finding_counts.specs.declared.word_ranks.WordRanks.{WordRanks}

-- findings about the target of a record are of one group, and those about an owner or another name of another: in each, the least rank comes first
unfoldable pub word_rank : Code → Option WordRank
word_rank NsAddress = Some (record { group = 0; rank = 0 })
word_rank TargetAddress = Some (record { group = 0; rank = 1 })
word_rank MissingDot = Some (record { group = 0; rank = 2 })
word_rank TargetCname = Some (record { group = 0; rank = 3 })
word_rank TargetMissing = Some (record { group = 0; rank = 4 })
word_rank CnameTargetMissing = Some (record { group = 0; rank = 5 })
word_rank WildcardInside = Some (record { group = 1; rank = 0 })
word_rank SoaMail = Some (record { group = 1; rank = 1 })
word_rank HostName = Some (record { group = 1; rank = 2 })
word_rank HighOctet = Some (record { group = 1; rank = 3 })
word_rank Unportable = Some (record { group = 1; rank = 4 })
word_rank _ = None

abbrev pub is_same_word : (first second : CodeAtWord) → Bool
is_same_word first second = first.file == second.file && (first.position.line == second.position.line && first.position.column == second.position.column)

abbrev pub ranks_are_ordered : Option WordRank → Option WordRank → Bool
ranks_are_ordered (Some first) (Some second) = first.group == second.group && nat_lt first.rank second.rank
ranks_are_ordered _ _ = false

-- both are about one word, and the first one's code comes before the other's in its group
abbrev pub outranks : (first second : CodeAtWord) → Bool
outranks first second = is_same_word first second && ranks_are_ordered (word_rank first.code) (word_rank second.code)

-- both are about one word, and their codes are of one group
abbrev pub groups_are_equal : Option WordRank → Option WordRank → Bool
groups_are_equal (Some first) (Some second) = first.group == second.group
groups_are_equal _ _ = false

abbrev pub is_of_same_group : (first second : CodeAtWord) → Bool
is_of_same_group first second = is_same_word first second && groups_are_equal (word_rank first.code) (word_rank second.code)

abbrev pub pair_cmp : (x y : ℕ × ℕ) → Ordering
pair_cmp x y = ordering_then (nat_cmp x.0 y.0) (nat_cmp x.1 y.1)

-- keys of words are compared by group, file, line and column
abbrev pub word_cmp : (x y : (ℕ × ℕ) × (ℕ × ℕ)) → Ordering
word_cmp x y = ordering_then (pair_cmp x.0 y.0) (pair_cmp x.1 y.1)

-- the key of a word, for the findings of the group of a rank
abbrev pub word_key : WordRank → CodeAtWord → (ℕ × ℕ) × (ℕ × ℕ)
word_key r word = ((r.group, word.file), (word.position.line, word.position.column))

abbrev pub is_rank_less : Option ℕ → ℕ → Bool
is_rank_less None _ = false
is_rank_less (Some least) rank = nat_lt least rank

-- the least of a rank and of the one that a word has
abbrev pub least_rank : Option ℕ → ℕ → ℕ
least_rank None rank = rank
least_rank (Some least) rank = min rank least

abbrev pub is_beaten_at : WordRanks → CodeAtWord → Option WordRank → Bool
is_beaten_at ranks at None = false
is_beaten_at ranks at (Some r) = is_rank_less (get word_cmp ranks.ranks (word_key r at)) r.rank

-- whether a finding that outranks one was added
abbrev pub is_beaten : WordRanks → CodeAtWord → Bool
is_beaten ranks at = is_beaten_at ranks at (word_rank at.code)

abbrev pub held_index_at : WordRanks → CodeAtWord → Option WordRank → Option ℕ
held_index_at ranks at None = None
held_index_at ranks at (Some r) = get word_cmp ranks.held (word_key r at)

-- the index of the finding that is held, of the group and about the word of one
abbrev pub held_index : WordRanks → CodeAtWord → Option ℕ
held_index ranks at = held_index_at ranks at (word_rank at.code)

-- a finding is held about its word unless one of its group is
abbrev pub first_held : Option ℕ → ℕ → Bool → Option ℕ
first_held (Some index) _ _ = Some index
first_held None index holds = if holds then Some index else None

abbrev pub held_after : WordRanks → CodeAtWord → ℕ → CodeAtWord → Option ℕ
held_after ranks held index at = first_held (held_index ranks at) index (is_of_same_group held at)

-- whether a finding about a record of a type may be outranked by one that is found later: the addresses of name servers, and the rules of names, are looked at once all records are known
unfoldable pub may_be_outranked : Code → List ℕ → Bool
may_be_outranked TargetAddress rtype = bytes_eq rtype (codes "NS")
may_be_outranked MissingDot rtype = bytes_eq rtype (codes "NS")
may_be_outranked HighOctet _ = true
may_be_outranked Unportable _ = true
may_be_outranked _ _ = false

-- one more finding was added: it beats those that it outranks
abbrev pub BeatsAlso : (word : CodeAtWord) (old new : WordRanks) → Type 0
BeatsAlso word old new = (other : CodeAtWord) → is_beaten new other ≡ (is_beaten old other || outranks word other)

abbrev pub BeatsTheSame : (old new : WordRanks) → Type 0
BeatsTheSame old new = (other : CodeAtWord) → is_beaten new other ≡ is_beaten old other

-- one more finding is held, unless one of its group is held about its word
abbrev pub HoldsAlso : (word : CodeAtWord) (index : ℕ) (old new : WordRanks) → Type 0
HoldsAlso word index old new = (other : CodeAtWord) → held_index new other ≡ held_after old word index other

abbrev pub HoldsTheSame : (old new : WordRanks) → Type 0
HoldsTheSame old new = (other : CodeAtWord) → held_index new other ≡ held_index old other

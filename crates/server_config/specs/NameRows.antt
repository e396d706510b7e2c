-- Worked examples of the names of zone files and of lines of lists, each computed.
use Rattle.std.specs.Prelude.{◌≡◌, true, false, [], ◌∷◌, map, None, Some, codes, refl}
use Rattle.server_config.specs.PathPatterns.{is_path_pattern, may_fit}
use Rattle.server_config.specs.ZoneLists.{list_line}
use Rattle.server_config.specs.ZoneNames.{is_doubtful_zone, is_name_form, is_side_file, zone_in_name, zone_in_path}
use Rattle.server_config.specs.declared.zone_list.ListLine.TheVariants.{Blank, Entry, NoFile, Trailing}

-- a form has one mark
forms : map is_name_form (codes "*.zone" ∷ codes "db.%" ∷ codes "%" ∷ codes "zone" ∷ codes "%.*" ∷ codes "" ∷ [])
    ≡ true ∷ true ∷ true ∷ false ∷ false ∷ false ∷ []
forms = refl

-- the zone of a name
names : map (zone_in_name (codes "*.zone")) (codes "a.b.zone" ∷ codes ".zone" ∷ codes "a.db" ∷ codes "zone" ∷ [])
    ≡ Some (record { at = 0; end = 3 }) ∷ None ∷ None ∷ None ∷ []
names = refl

prefixed : map (zone_in_name (codes "db.%")) (codes "db.a.b" ∷ codes "db." ∷ codes "Db.a" ∷ [])
    ≡ Some (record { at = 3; end = 6 }) ∷ None ∷ None ∷ []
prefixed = refl

-- what lies beside zone files
side_files : map is_side_file (codes ".a.zone" ∷ codes "a.zone~" ∷ codes "a.db.jnl" ∷ codes "a.db.jbk" ∷ codes "a.db.signed" ∷ codes "a.zone" ∷ codes "jnl" ∷ [])
    ≡ true ∷ true ∷ true ∷ true ∷ true ∷ false ∷ false ∷ []
side_files = refl

-- Debian's names of files
doubtful : map is_doubtful_zone (codes "127" ∷ codes "192.168.1" ∷ codes "local" ∷ codes "ROOT" ∷ codes "empty" ∷ codes "10.in-addr.arpa" ∷ codes "locals" ∷ [])
    ≡ true ∷ true ∷ true ∷ true ∷ true ∷ false ∷ false ∷ []
doubtful = refl

-- lines of lists
lines : map list_line (codes "a f" ∷ codes "\tb \t g " ∷ codes "" ∷ codes "  " ∷ codes "a" ∷ codes "a f x y" ∷ [])
    ≡ Entry (record { at = 0; end = 1 }) (record { at = 2; end = 3 }) ∷ Entry (record { at = 1; end = 2 }) (record { at = 5; end = 6 }) ∷ Blank ∷ Blank
    ∷ NoFile (record { at = 0; end = 1 }) ∷ Trailing (record { at = 4; end = 5 }) ∷ []
lines = refl

-- the zone of a path
paths : map zone_in_path (codes "/a.b/c.d.zone" ∷ codes "x.db" ∷ codes "zones/e" ∷ codes ".zone" ∷ codes "a.zone/" ∷ [])
    ≡ record { at = 5; end = 8 } ∷ record { at = 0; end = 1 } ∷ record { at = 6; end = 7 } ∷ record { at = 0; end = 0 } ∷ record { at = 7; end = 7 } ∷ []
paths = refl

-- patterns, and names that can fit them: hidden files only fit a dot, and nothing is a slash
patterns : map is_path_pattern (codes "*.conf" ∷ codes "a?" ∷ codes "[ab]" ∷ codes "named.conf" ∷ codes "a]" ∷ []) ≡ true ∷ true ∷ true ∷ false ∷ false ∷ []
patterns = refl

may_fits : map (may_fit (codes "*")) (codes "a" ∷ codes ".a" ∷ codes "a/b" ∷ []) ≡ true ∷ false ∷ false ∷ []
may_fits = refl

may_fit_dot : map (may_fit (codes ".*")) (codes ".a" ∷ codes "./a" ∷ []) ≡ true ∷ false ∷ []
may_fit_dot = refl

-- The values of a row.
use Rattle.std.specs.Prelude.{List, map}
use Rattle.serde_json.specs.Data.{Data}
use Rattle.serde_json.specs.View.{view}
use Rattle.sp_audit.specs.declared.row.Row.{Row}

-- what stands in the row
abbrev pub standing : Row → List Data
standing row = map view row.values.items

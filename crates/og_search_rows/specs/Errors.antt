-- Why the work on rows ends.
use Rattle.og_search_rows.specs.declared.error.RowError.{RowError}
use Rattle.og_search_rows.specs.declared.error.RowError.TheVariants as rows
use Rattle.og_search_rows.specs.declared.error.AddError.{AddError}
use Rattle.og_search_rows.specs.declared.error.AddError.TheVariants as adding

-- the same reason, where rows are added
abbrev pub as_add_error : RowError → AddError
as_add_error rows.Memory = adding.Memory
as_add_error rows.Budget = adding.Budget

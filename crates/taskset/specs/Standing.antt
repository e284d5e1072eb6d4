-- What a table is after a history of edits: apart from what names the set, whose ghost field cites it.
use Rattle.std.specs.Prelude.{ℕ, List}
use Rattle.loads.specs.Kind.{Kind}
use Rattle.ledger.specs.declared.edit.Edit.{Edit}
use Rattle.ledger.specs.History.{Answer, After}
use Rattle.table.specs.declared.table.Table.{Table}
use Rattle.table.specs.Tables.{ledger, held}

module _ (k : Kind) (s : ℕ → ℕ) where
  -- the table has what the edits, so answered, leave of a new one
  abbrev pub Stands : List Edit → List Answer → Table → Type 0
  Stands es rs t = After k s es rs (ledger t) (held t)

  -- some history of edits has left the table
  abbrev pub LeftByEdits : Table → Type 0
  LeftByEdits t = (es : List Edit) × (rs : List Answer) × Stands es rs t

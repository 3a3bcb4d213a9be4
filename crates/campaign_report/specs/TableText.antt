-- The table of a campaign: a heading, a line for each case, and the sums over all cases.
use Rattle.std.specs.Prelude.{ℕ, ◌+◌, Bool, true, false, List, [], ◌∷◌, length, map, codes, decimal}
use Rattle.ccp_base.specs.Text.{◌⧺◌}
use Rattle.agent_core.specs.declared.agent.Agent.{Agent}
use Rattle.flow_core.specs.LiveText.{agent_text}
use Rattle.campaign_core.specs.declared.row.Column.{Column}
use Rattle.campaign_core.specs.declared.row.Row.{Row}
use Rattle.campaign_core.specs.CampaignRow.{columns, heading_of, column_value, is_summed}
use Rattle.live_lines.specs.FlowLabels.{own}

-- ---- the heading

-- the words above columns, each after a space
abbrev pub headings : List Column → List ℕ
headings [] = []
headings (column ∷ rest) = codes " " ⧺ heading_of column ⧺ headings rest

-- the line above rows with these columns
abbrev pub heading : List Column → List ℕ
heading columns = codes "case agent" ⧺ headings columns ⧺ codes "\n"

-- ---- rows

abbrev pub after_space : ℕ → List ℕ
after_space number = codes " " ⧺ decimal number

-- a row's numbers in columns, each after a space
abbrev pub values : List Column → Row → List ℕ
values [] row = []
values (column ∷ rest) row = after_space (column_value column row) ⧺ values rest row

-- the name of a case and the word for its agent
abbrev pub row_head : List ℕ → List ℕ → List ℕ
row_head name label = name ⧺ codes " " ⧺ label

abbrev pub row_line : List ℕ → List ℕ → Row → List ℕ
row_line name label row = row_head name label ⧺ values columns row ⧺ codes "\n"

-- the rows, each with its case's name and the word for its agent
abbrev pub row_lines : List Row → List (List ℕ) → List (List ℕ) → List ℕ
row_lines [] names labels = []
row_lines (row ∷ rows) [] labels = []
row_lines (row ∷ rows) (name ∷ names) [] = []
row_lines (row ∷ rows) (name ∷ names) (label ∷ labels) = row_line name label row ⧺ row_lines rows names labels

-- ---- the total

-- the sum of a column, which has no bound
abbrev pub column_sum : Column → List Row → ℕ
column_sum column [] = 0
column_sum column (row ∷ rest) = column_value column row + column_sum column rest

-- the sum of a column with its word, if it is shown
abbrev pub sum_text : Bool → Column → List Row → List ℕ
sum_text false column rows = []
sum_text true column rows = codes " " ⧺ heading_of column ⧺ codes "=" ⧺ decimal (column_sum column rows)

-- the sums of those columns that the total has
abbrev pub sums : List Column → List Row → List ℕ
sums [] rows = []
sums (column ∷ rest) rows = sum_text (is_summed column) column rows ⧺ sums rest rows

-- the number of rows, and the sums
abbrev pub total_line : List Row → List ℕ
total_line rows = codes "total cases=" ⧺ decimal (length rows) ⧺ sums columns rows ⧺ codes "\n"

-- ---- the texts

-- the table of rows, whose cases have these names and agents these words
abbrev pub labelled_table : List (List ℕ) → List (List ℕ) → List Row → List ℕ
labelled_table names labels rows = heading columns ⧺ row_lines rows names labels ⧺ total_line rows

abbrev pub table_text : List (List ℕ) → List Agent → List Row → List ℕ
table_text names agents rows = labelled_table names (map agent_text agents) rows

-- the table of flows that agents outside drive
abbrev pub own_table_text : List (List ℕ) → List Row → List ℕ
own_table_text names rows = labelled_table names (map (λ row. own) rows) rows

abbrev pub soak_head : ℕ → List ℕ
soak_head number = codes "soak number=" ⧺ decimal number ⧺ codes "\n"

-- the total of a generated campaign, after its number
abbrev pub soak_text : ℕ → List Row → List ℕ
soak_text number rows = soak_head number ⧺ total_line rows

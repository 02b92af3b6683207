-- How much a database may hold.
use Rattle.std.specs.Prelude.{ℕ}

-- the attributes of a relation or a view
abbrev pub most_attributes : ℕ
most_attributes = 49

-- the bytes of a row
abbrev pub most_row_bytes : ℕ
most_row_bytes = 1000

-- the key attributes of a structure or an index
abbrev pub most_keys : ℕ
most_keys = 6

-- the variables of a query as it stands
abbrev pub most_variables : ℕ
most_variables = 10

-- the variables of a query once the views in it are expanded
abbrev pub most_expanded_variables : ℕ
most_expanded_variables = 50

-- the size of a view once the views in it are expanded
abbrev pub greatest_size : ℕ
greatest_size = 1000

-- the size of a rule's qualification, and of a permit's
abbrev pub greatest_qual_size : ℕ
greatest_qual_size = 1000

-- the levels of a tree that is stored
abbrev pub most_levels : ℕ
most_levels = 3000

-- the attributes that a permit lists, one that it names twice counting twice
abbrev pub most_listed_attributes : ℕ
most_listed_attributes = 65535

-- the level of a view
abbrev pub greatest_level : ℕ
greatest_level = 16

-- the permits of one relation
abbrev pub most_permits : ℕ
most_permits = 100

-- the rules of one relation
abbrev pub most_rules : ℕ
most_rules = 100

-- the number of a permit or a rule
abbrev pub greatest_number : ℕ
greatest_number = 4294967295

-- relations, views and indexes together, without the catalogues
abbrev pub most_entries : ℕ
most_entries = 10000

-- the rows of a relation
abbrev pub most_rows : ℕ
most_rows = 100000

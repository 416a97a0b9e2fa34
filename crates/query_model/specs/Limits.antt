-- How much an input may have, and how many ids a reply lists. The code has constants of its own, which have to match.
use Rattle.std.specs.Prelude.{ℕ}

-- the words of a document, or of a `top`
abbrev pub most_words : ℕ
most_words = 1000

abbrev pub most_documents : ℕ
most_documents = 200000

abbrev pub most_queries : ℕ
most_queries = 50000

-- the queries times the shards
abbrev pub most_tasks : ℕ
most_tasks = 262144

-- the ids that a reply to `find` lists
abbrev pub most_listed : ℕ
most_listed = 100

-- the ticks of all lines
abbrev pub most_ticks : ℕ
most_ticks = 10000000

-- the ticks that a query waits
abbrev pub most_delay : ℕ
most_delay = 4294967295

-- the greatest id
abbrev pub most_id : ℕ
most_id = 4294967295

-- the documents that `top` lists
abbrev pub most_ranked : ℕ
most_ranked = 100

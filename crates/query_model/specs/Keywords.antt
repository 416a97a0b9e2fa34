-- The fields that lines begin with.
use Rattle.std.specs.Prelude.{List, [], ◌∷◌, codes, find, Option}
use Rattle.query_model.specs.Pieces.{Bytes, is_text}
use Rattle.query_model.specs.declared.keyword.Keyword.{Keyword}
use Rattle.query_model.specs.declared.keyword.Keyword.TheVariants.{Doc, Tick, Cancel, After, Lo, Mid, Hi, Find, Count, Exists, Top}

abbrev pub keywords : List Keyword
keywords = Doc ∷ (Tick ∷ (Cancel ∷ (After ∷ (Lo ∷ (Mid ∷ (Hi ∷ (Find ∷ (Count ∷ (Exists ∷ (Top ∷ []))))))))))

abbrev pub text_of : Keyword → Bytes
text_of Doc = codes "doc"
text_of Tick = codes "tick"
text_of Cancel = codes "cancel"
text_of After = codes "after"
text_of Lo = codes "lo"
text_of Mid = codes "mid"
text_of Hi = codes "hi"
text_of Find = codes "find"
text_of Count = codes "count"
text_of Exists = codes "exists"
text_of Top = codes "top"

-- the keyword that a field is
abbrev pub keyword_of : Bytes → Option Keyword
keyword_of field = find (λ keyword. is_text (text_of keyword) field) keywords

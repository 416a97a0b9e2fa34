-- What is known of a query whose turn has come.
use Rattle.std.proofs.Common.{◌≡◌, ◌≤◌, ℕ, zero, suc, ◌-◌, ◌++◌, List, [], ◌∷◌, length, map, sym, ap, ◌∙◌, subst, Some}
use Rattle.std.specs.Prelude.{take}
use Rattle.std.specs.List.{All, slice_get}
use Rattle.std.proofs.lemmas.List.Elements.{All-append, All-head, All-map, All-tail}
use Rattle.query_model.specs.declared.line.Ask.{Ask}
use Rattle.query_model.specs.declared.line.Line.{Line}
use Rattle.query_model.specs.declared.line.Line.TheVariants as line
use Rattle.query_model.specs.declared.line.Query.{Query}
use Rattle.query_model.specs.Alike.{AreAlike}
use Rattle.query_model.specs.Answers.{answer}
use Rattle.query_model.specs.Documents.{docs_of}
use Rattle.query_model.specs.Order.{asked_in, docs_before, left_in}
use Rattle.fan_model.specs.Comings.{Coming, ComesAt, IsAsked, come_in, comings_of, query_of, reply_to}
use Rattle.fan_model.specs.Places.{IsReplyAt}
use Rattle.fan_model.specs.Report.{Asking}
use Rattle.fan_parts.specs.Facts.{IsAskOf, IsAnswerAt}
use Rattle.fan_parts.specs.Seen.{AskSeen}
use Rattle.query_opening.specs.Turns.{IsAskAt, IsBegun}

-- what holds of each item holds of the one at a place
pub all_get : {X : Type 0} (P : X → Type 0) (xs : List X) (k : ℕ) (x : X) → All P xs → slice_get xs k ≡ Some x → P x
all_get P [] k x all e = absurd cc
all_get P (y ∷ ys) zero x all e = let same : y ≡ x = cc in subst P same (All-head P y ys all)
all_get P (y ∷ ys) (suc k) x all e = all_get P ys k x (All-tail P y ys all) e

-- the query that comes at a place is one of these lines
pub is_asked : (lines : List Line) (place : ℕ) (c : Coming) → All (λ (d : Coming). IsAsked lines (query_of d)) (come_in lines) → All (IsAsked lines) (left_in lines)
    → slice_get (comings_of lines) place ≡ Some c → IsAsked lines (query_of c)
unfolding comings_of
is_asked lines place c some left at =
    let P : Coming → Type 0 = λ d. IsAsked lines (query_of d) in
    all_get P (come_in lines ++ map Coming.cancels (left_in lines)) place c (All-append P (come_in lines) (map Coming.cancels (left_in lines)) some (All-map P Coming.cancels (left_in lines) left)) at

-- the laws of what comes, and of the documents before a line, as the calls give them
pub record Laws (lines : List Line) : Type 0 where
  pub at : (place : ℕ) (coming : Coming) → ComesAt lines place coming → IsReplyAt lines place (reply_to lines coming).0 (reply_to lines coming).1
  pub asked : All (λ (c : Coming). IsAsked lines (query_of c)) (come_in lines)
  pub left : All (IsAsked lines) (left_in lines)
  pub first : (place : ℕ) → take (length (docs_of (take place lines))) (docs_of lines) ≡ docs_of (take place lines)
  pub within : (place : ℕ) → length (docs_of (take place lines)) ≤ length (docs_of lines)

pub line_is : (asked : Asking) (place number at documents : ℕ) (b : IsBegun asked place number at documents) → Laws asked.lines → slice_get asked.lines at ≡ Some (line.Query b.query.query)
line_is asked place number at documents b laws =
    let is = is_asked asked.lines place (Coming.begins b.query) laws.asked laws.left b.comes.at in
    ap (λ (k : ℕ). slice_get asked.lines k) b.line_is ∙ is.line

-- the line of a query, among lines that are alike
pub there : (lines walked : List Line) (at : ℕ) (query : Query) → AreAlike walked lines
    → ((all others : List Line) (place : ℕ) (q : Query) → AreAlike all others → slice_get all place ≡ Some (line.Query q) → slice_get others place ≡ Some (line.Query q))
    → slice_get lines at ≡ Some (line.Query query) → slice_get walked at ≡ Some (line.Query query)
there lines walked at query alike law is = law lines walked at query (record { same = sym alike.same }) is

pub ask_is : (asked : Asking) (place number at documents : ℕ) (asks : Ask) (b : IsBegun asked place number at documents) → Laws asked.lines → asks ≡ b.query.query.ask → IsAskOf asked number asks documents
ask_is asked place number at documents asks b laws same =
    let is = is_asked asked.lines place (Coming.begins b.query) laws.asked laws.left b.comes.at in record {
      query = b.query;
      at = ap (λ (k : ℕ). slice_get (asked_in asked.lines) (k - 1)) b.number_is ∙ is.at;
      number_is = sym b.number_is;
      asks_is = same;
      before_is = ap (λ (k : ℕ). take k (docs_of asked.lines)) b.documents_are ∙ laws.first b.query.place;
      within = subst (λ (k : ℕ). k ≤ length (docs_of asked.lines)) (sym b.documents_are) (laws.within b.query.place);
      few = b.few;
      countable = b.countable;
    }

pub ask_at : (asked : Asking) (place number at documents : ℕ) (asks : Ask) (b : IsBegun asked place number at documents) → Laws asked.lines → asks ≡ b.query.query.ask
    → (ask : AskSeen) → ask ≡ record { number = number; asks = asks; before = documents } → IsAskAt asked place number documents ask
ask_at asked place number at documents asks b laws same ask is =
    let reply = laws.at place (Coming.begins b.query) b.comes in
    let docs : take documents (docs_of asked.lines) ≡ docs_before asked.lines b.query = ap (λ (k : ℕ). take k (docs_of asked.lines)) b.documents_are ∙ laws.first b.query.place in
    let here : IsAnswerAt asked place number asks documents = record {
      at = reply.at ∙ (ap (λ (k : ℕ). Some (k, answer b.query.query.ask (docs_before asked.lines b.query))) (sym b.number_is)
          ∙ (ap (λ (a : Ask). Some (number, answer a (docs_before asked.lines b.query))) (sym same) ∙ ap (λ ds. Some (number, answer asks ds)) (sym docs)));
    } in record {
      number_is = ap (λ (s : AskSeen). s.number) is;
      before_is = ap (λ (s : AskSeen). s.before) is;
      answer_at = subst (λ (s : AskSeen). IsAnswerAt asked place s.number s.asks s.before) (sym is) here;
    }

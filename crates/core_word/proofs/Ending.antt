-- What the slots hold at the end, by the state.
use Rattle.std.proofs.Common.{◌≡◌, ◌≢◌, ℕ, zero, suc, ◌<◌, arith, Bool, true, false, inl, inr, List, [], ◌∷◌, refl, sym, ap, ◌∙◌, subst, Option, Some, None, IsSome}
use Rattle.std.specs.Prelude.{◌↔◌, slice_index, slice_set, slice_index_or, is_none}
use mathlib.Core.Option as maybe
use mathlib.Core.Option.{some-injective, some-ne-none}
use lib.ListN.{get_elem?}
use Rattle.fan_base.specs.declared.outcome.Try.{Try}
use Rattle.core_state.specs.declared.table.State.{State as CoreState}
use Rattle.core_state.specs.declared.table.State.TheVariants as state
use Rattle.core_state.specs.declared.schedule.Offer.TheVariants as offered
use Rattle.core_state.specs.declared.schedule.Demand.TheVariants as demanded
use Rattle.core_state.specs.declared.schedule.Request.{Request}
use Rattle.core_state.specs.Table.{code_of, waiting_state}
use Rattle.core_state.specs.Schedule.{state_from}
use Rattle.atomic_table.specs.Table.{Final, Seen}
use Rattle.core_word.specs.declared.close.Unspent.{Unspent}
use Rattle.core_word.specs.declared.view.Item.TheVariants as item
use Rattle.core_word.specs.declared.view.View.{View}
use Rattle.core_word.specs.declared.view.View.TheVariants as view
use Rattle.core_word.proofs.Beginning.{key_begins}
use Rattle.core_word.specs.declared.view.ProducerPhase.{ProducerPhase}
use Rattle.core_word.specs.declared.view.ProducerPhase.TheVariants as producer
use Rattle.core_word.specs.declared.view.ConsumerPhase.{ConsumerPhase}
use Rattle.core_word.specs.declared.view.ConsumerPhase.TheVariants as consumer
use Rattle.core_word.specs.Views.{offer_of, demand_of}
use Rattle.core_word.specs.Rule.{Held, Home, homes_of, Fit, StandsFor}
use Rattle.core_word.specs.Ends.{SeenEnd, state_of_code, state_in, attached_in}
use Rattle.core_word.specs.Closing.{IsEnd, IsWaiting, callback_of, HandsOut, HasNothing}

decoded_code : (s : CoreState) → state_of_code (code_of s) ≡ s
decoded_code state.Start = refl
decoded_code state.OnlyResult = refl
decoded_code state.OnlyCallback = refl
decoded_code state.Proxy = refl
decoded_code state.Done = refl
decoded_code state.Empty = refl
decoded_code state.OnlyCallbackAllowInline = refl

one_code : (s t : CoreState) → code_of s ≡ code_of t → s ≡ t
one_code s t e = sym (decoded_code s) ∙ (ap state_of_code e ∙ decoded_code t)

first_word : (words : List ℕ) (w : ℕ) → get_elem? words 0 ≡ maybe.some w → slice_index words 0 ≡ w
first_word [] w e = absurd (some-ne-none w (sym e))
first_word (x ∷ xs) w e = some-injective x w e

second_word : (words : List ℕ) (w : ℕ) → get_elem? words 1 ≡ maybe.some w → slice_index words 1 ≡ w
second_word [] w e = absurd (some-ne-none w (sym e))
second_word (x ∷ []) w e = absurd (some-ne-none w (sym e))
second_word (x ∷ y ∷ xs) w e = some-injective y w e

-- the state that a word is the code of, and the number of attached halves
pub reads_state : (words : List ℕ) (w : ℕ) (s : CoreState) → get_elem? words 0 ≡ maybe.some w → code_of s ≡ w → s ≡ state_in words
reads_state words w s at is = sym (decoded_code s) ∙ (ap state_of_code is ∙ ap state_of_code (sym (first_word words w at)))

pub reads_attached : (words : List ℕ) (w : ℕ) → get_elem? words 1 ≡ maybe.some w → w ≡ attached_in words
reads_attached words w at = sym (second_word words w at)

none_at : {A : Type 0} (o : Option A) → ((x : A) → o ≡ Some x → ⊥) → o ≡ None
none_at None never = refl
none_at (Some x) never = absurd (never x refl)

some_is : {A : Type 0} (o : Option A) (a : A) → o ≡ Some a → IsSome o
some_is o a e = subst (λ x. IsSome x) (sym e) refl

-- the two words of a home that nobody has begun
pub unbegun_is : (s : CoreState) (n : ℕ) → code_of s ∷ n ∷ [] ≡ 0 ∷ 2 ∷ [] → (s ≡ state.Start) × (n ≡ 2)
unbegun_is s n e = (one_code s state.Start (some-injective _ _ (ap (λ ws. get_elem? ws 0) e)), some-injective _ _ (ap (λ ws. get_elem? ws 1) e))

module _ {T C P : Type 0} where
  -- the slot at this place is at home with this item
  abbrev HomeWith : ℕ → {A : Type 0} → (A → Held T C P) → List (Home T C P) → Type 0
  HomeWith k {A} held homes = (x : A) × (get_elem? homes k ≡ maybe.some (maybe.some (held x)))

  abbrev an_outcome : Try T → Held T C P
  an_outcome r = Some (item.Outcome r)

  abbrev a_callback : Request C → Held T C P
  a_callback c = Some (item.Callback c)

  abbrev a_proxy : P → Held T C P
  a_proxy k = Some (item.Proxy k)

  abbrev Kept : CoreState → List (Home T C P) → Type 0
  Kept state.Start homes = Unit {0}
  Kept state.OnlyResult homes = HomeWith 0 an_outcome homes
  Kept state.OnlyCallback homes = HomeWith 1 a_callback homes
  Kept state.Proxy homes = HomeWith 2 a_proxy homes
  Kept state.Done homes = Unit {0}
  Kept state.Empty homes = Unit {0}
  Kept state.OnlyCallbackAllowInline homes = HomeWith 1 a_callback homes

  -- the slot at this place holds this item in the end
  abbrev EndsWith : ℕ → {A : Type 0} → (A → Held T C P) → List (Held T C P) → Type 0
  EndsWith k {A} held slots = (x : A) × (get_elem? slots k ≡ maybe.some (held x))

  abbrev KeptAtEnd : CoreState → List (Held T C P) → Type 0
  KeptAtEnd state.Start slots = Unit {0}
  KeptAtEnd state.OnlyResult slots = EndsWith 0 an_outcome slots
  KeptAtEnd state.OnlyCallback slots = EndsWith 1 a_callback slots
  KeptAtEnd state.Proxy slots = EndsWith 2 a_proxy slots
  KeptAtEnd state.Done slots = Unit {0}
  KeptAtEnd state.Empty slots = Unit {0}
  KeptAtEnd state.OnlyCallbackAllowInline slots = EndsWith 1 a_callback slots

  kept_waiting : (inline : Bool) (homes : List (Home T C P)) → HomeWith 1 a_callback homes → Kept (waiting_state inline) homes
  kept_waiting true homes h = h
  kept_waiting false homes h = h

  kept : (p : ProducerPhase T C P) (c : ConsumerPhase T C P) → Fit p c → Kept (state_from (offer_of p) (demand_of c)) (homes_of p c)
  kept producer.Ready consumer.Ready fit = tt
  kept producer.Ready consumer.Holding fit = tt
  kept producer.Ready (consumer.Aware s) fit = tt
  kept producer.Ready (consumer.Acted demanded.Nothing got left) fit = tt
  kept producer.Ready (consumer.Acted (demanded.Callback c) offered.Nothing left) fit = kept_waiting c.inline _ (_, refl)
  kept producer.Ready (consumer.Acted (demanded.Callback c) (offered.Result r) left) fit = let e = fit.0 in cc
  kept producer.Ready (consumer.Acted (demanded.Callback c) (offered.Proxy k) left) fit = let e = fit.0 in cc
  kept (producer.Holding o) consumer.Ready fit = tt
  kept (producer.Holding o) consumer.Holding fit = tt
  kept (producer.Holding o) (consumer.Aware s) fit = tt
  kept (producer.Holding o) (consumer.Acted demanded.Nothing got left) fit = tt
  kept (producer.Holding o) (consumer.Acted (demanded.Callback c) offered.Nothing left) fit = kept_waiting c.inline _ (_, refl)
  kept (producer.Holding o) (consumer.Acted (demanded.Callback c) (offered.Result r) left) fit = let e = fit.0 in cc
  kept (producer.Holding o) (consumer.Acted (demanded.Callback c) (offered.Proxy k) left) fit = let e = fit.0 in cc
  kept (producer.Aware o a) consumer.Ready fit = tt
  kept (producer.Aware o a) consumer.Holding fit = tt
  kept (producer.Aware o a) (consumer.Aware s) fit = tt
  kept (producer.Aware o a) (consumer.Acted demanded.Nothing got left) fit = tt
  kept (producer.Aware o a) (consumer.Acted (demanded.Callback c) offered.Nothing left) fit = kept_waiting c.inline _ (_, refl)
  kept (producer.Aware o a) (consumer.Acted (demanded.Callback c) (offered.Result r) left) fit = let e = fit.0 in cc
  kept (producer.Aware o a) (consumer.Acted (demanded.Callback c) (offered.Proxy k) left) fit = let e = fit.0 in cc
  kept (producer.Acted offered.Nothing demanded.Nothing left) c fit = absurd fit.0.0
  kept (producer.Acted offered.Nothing (demanded.Callback x) left) c fit = absurd fit.0.0
  kept (producer.Acted (offered.Result r) demanded.Nothing left) consumer.Ready fit = (_, refl)
  kept (producer.Acted (offered.Result r) demanded.Nothing left) consumer.Holding fit = (_, refl)
  kept (producer.Acted (offered.Result r) demanded.Nothing left) (consumer.Aware s) fit = (_, refl)
  kept (producer.Acted (offered.Result r) demanded.Nothing left) (consumer.Acted demanded.Nothing offered.Nothing left') fit = (_, refl)
  kept (producer.Acted (offered.Result r) demanded.Nothing left) (consumer.Acted demanded.Nothing (offered.Result q) left') fit = let e = fit.0.1 in cc
  kept (producer.Acted (offered.Result r) demanded.Nothing left) (consumer.Acted demanded.Nothing (offered.Proxy q) left') fit = let e = fit.0.1 in cc
  kept (producer.Acted (offered.Result r) demanded.Nothing left) (consumer.Acted (demanded.Callback c) got left') fit = tt
  kept (producer.Acted (offered.Result r) (demanded.Callback x) left) consumer.Ready fit = absurd fit.0.1
  kept (producer.Acted (offered.Result r) (demanded.Callback x) left) consumer.Holding fit = absurd fit.0.1
  kept (producer.Acted (offered.Result r) (demanded.Callback x) left) (consumer.Aware s) fit = absurd fit.0.1
  kept (producer.Acted (offered.Result r) (demanded.Callback x) left) (consumer.Acted demanded.Nothing got left') fit = absurd fit.0.1
  kept (producer.Acted (offered.Result r) (demanded.Callback x) left) (consumer.Acted (demanded.Callback c) got left') fit = tt
  kept (producer.Acted (offered.Proxy r) demanded.Nothing left) consumer.Ready fit = (_, refl)
  kept (producer.Acted (offered.Proxy r) demanded.Nothing left) consumer.Holding fit = (_, refl)
  kept (producer.Acted (offered.Proxy r) demanded.Nothing left) (consumer.Aware s) fit = (_, refl)
  kept (producer.Acted (offered.Proxy r) demanded.Nothing left) (consumer.Acted demanded.Nothing offered.Nothing left') fit = (_, refl)
  kept (producer.Acted (offered.Proxy r) demanded.Nothing left) (consumer.Acted demanded.Nothing (offered.Result q) left') fit = let e = fit.0.1 in cc
  kept (producer.Acted (offered.Proxy r) demanded.Nothing left) (consumer.Acted demanded.Nothing (offered.Proxy q) left') fit = let e = fit.0.1 in cc
  kept (producer.Acted (offered.Proxy r) demanded.Nothing left) (consumer.Acted (demanded.Callback c) got left') fit = tt
  kept (producer.Acted (offered.Proxy r) (demanded.Callback x) left) consumer.Ready fit = absurd fit.0.1
  kept (producer.Acted (offered.Proxy r) (demanded.Callback x) left) consumer.Holding fit = absurd fit.0.1
  kept (producer.Acted (offered.Proxy r) (demanded.Callback x) left) (consumer.Aware s) fit = absurd fit.0.1
  kept (producer.Acted (offered.Proxy r) (demanded.Callback x) left) (consumer.Acted demanded.Nothing got left') fit = absurd fit.0.1
  kept (producer.Acted (offered.Proxy r) (demanded.Callback x) left) (consumer.Acted (demanded.Callback c) got left') fit = tt

  at_end : (homes : List (Home T C P)) (slots : List (Held T C P)) (s : CoreState) → ((k : ℕ) (y : Held T C P) → get_elem? homes k ≡ maybe.some (maybe.some y) → get_elem? slots k ≡ maybe.some y) → Kept s homes → KeptAtEnd s slots
  at_end homes slots state.Start same h = tt
  at_end homes slots state.OnlyResult same h = (h.0, same 0 _ h.1)
  at_end homes slots state.OnlyCallback same h = (h.0, same 1 _ h.1)
  at_end homes slots state.Proxy same h = (h.0, same 2 _ h.1)
  at_end homes slots state.Done same h = tt
  at_end homes slots state.Empty same h = tt
  at_end homes slots state.OnlyCallbackAllowInline same h = (h.0, same 1 _ h.1)

  -- In the end the words are the code of a state and a number, and where the number isn't 0 the slots hold what that state keeps.
  ends : (words : List ℕ) (slots : List (Held T C P)) → Final StandsFor words slots → (s : CoreState) × (n : ℕ) × (words ≡ code_of s ∷ n ∷ []) × (n ≢ 0 → KeptAtEnd s slots)
  ends words slots (t, inl b, is, long, same) = (state.Start, 2, sym is ∙ b.words, λ some. tt)
  ends words slots (t, inr (inl b), is, long, same) =
      let s = state_from (offer_of b.p) (demand_of b.c) in
      (s, _, sym is ∙ b.words, λ some. at_end t.homes slots s same (subst (λ hs. Kept s hs) (sym b.homes) (kept b.p b.c b.fit)))
  ends words slots (t, inr (inr (inl b)), is, long, same) = (state_from b.offer b.demand, 0, sym is ∙ b.words, λ some. absurd (some refl))
  ends words slots (t, inr (inr (inr (inl b))), is, long, same) = (state.Start, 0, sym is ∙ b.words, λ some. absurd (some refl))
  ends words slots (t, inr (inr (inr (inr b))), is, long, same) =
      let s = state_from (offer_of b.p) (demand_of b.c) in
      (s, _, sym is ∙ b.words, λ some. at_end t.homes slots s same (subst (λ hs. Kept s hs) (sym b.homes) (kept b.p b.c b.fit)))

  -- the words are the code of the state and the number that are read in them
  pub end_words : (words : List ℕ) (slots : List (Held T C P)) → Final StandsFor words slots → words ≡ code_of (state_in words) ∷ attached_in words ∷ []
  end_words words slots final =
      let e = ends words slots final in
      let is_s : state_in words ≡ e.0 = ap state_in e.2 ∙ decoded_code e.0 in
      let is_n : attached_in words ≡ e.1 = ap attached_in e.2 in
      e.2 ∙ sym (ap (λ s. code_of s ∷ attached_in words ∷ []) is_s ∙ ap (λ n. code_of e.0 ∷ n ∷ []) is_n)

  -- the first word is the code of a state
  pub has_state : (words : List ℕ) (slots : List (Held T C P)) → Final StandsFor words slots → (w : ℕ) → get_elem? words 0 ≡ maybe.some w → (s : CoreState) × (code_of s ≡ w)
  has_state words slots final w at_w =
      let e = ends words slots final in
      (e.0, some-injective (code_of e.0) w (sym (ap (λ ws. get_elem? ws 0) e.2) ∙ at_w))

  -- what the slots hold, by the state and the number that the words are
  kept_in : (words : List ℕ) (slots : List (Held T C P)) → Final StandsFor words slots → (s : CoreState) (n : ℕ) → words ≡ code_of s ∷ n ∷ [] → n ≢ 0 → KeptAtEnd s slots
  kept_in words slots final s n are some =
      let e = ends words slots final in
      let is_w : code_of e.0 ≡ code_of s = some-injective (code_of e.0) (code_of s) (ap (λ ws. get_elem? ws 0) (sym e.2 ∙ are)) in
      let is_n : e.1 ≡ n = some-injective e.1 n (ap (λ ws. get_elem? ws 1) (sym e.2 ∙ are)) in
      subst (λ t. KeptAtEnd t slots) (one_code e.0 s is_w) (e.3 (λ z. some (sym is_n ∙ z)))

  module _ (words : List ℕ) (slots : List (Held T C P)) (final : Final StandsFor words slots) (unspent : Unspent T C P) (are : words ≡ code_of unspent.end.state ∷ unspent.end.attached ∷ []) (held : unspent.end.slots ≡ slots) (out : HandsOut unspent) where
    kept_there : (k : ℕ) (x : Held T C P) → get_elem? slots k ≡ maybe.some x → get_elem? unspent.end.slots k ≡ maybe.some x
    kept_there k x e = ap (λ xs. get_elem? xs k) held ∙ e

    pub hands_outcome : unspent.end.attached ≢ 0 → unspent.end.state ≡ state.OnlyResult → IsSome unspent.outcome
    hands_outcome some is =
        let kept = kept_in words slots final state.OnlyResult unspent.end.attached (are ∙ ap (λ s. code_of s ∷ unspent.end.attached ∷ []) is) some in
        some_is unspent.outcome kept.0 ((out.outcome kept.0).1 (some, is, kept_there 0 _ kept.1))

    waits_kept : (inline : Bool) → KeptAtEnd (waiting_state inline) slots → EndsWith 1 a_callback slots
    waits_kept true h = h
    waits_kept false h = h

    pub hands_callback : (inline : Bool) → unspent.end.attached ≢ 0 → unspent.end.state ≡ waiting_state inline → IsSome unspent.callback
    hands_callback inline some is =
        let kept = waits_kept inline (kept_in words slots final (waiting_state inline) unspent.end.attached (are ∙ ap (λ s. code_of s ∷ unspent.end.attached ∷ []) is) some) in
        some_is unspent.callback kept.0.callback ((out.callback kept.0.callback).1 (some, (inline, is), (kept.0.inline, kept_there 1 _ kept.1)))

    pub hands_proxy : unspent.end.attached ≢ 0 → unspent.end.state ≡ state.Proxy → IsSome unspent.proxy
    hands_proxy some is =
        let kept = kept_in words slots final state.Proxy unspent.end.attached (are ∙ ap (λ s. code_of s ∷ unspent.end.attached ∷ []) is) some in
        some_is unspent.proxy kept.0 ((out.proxy kept.0).1 (some, is, kept_there 2 _ kept.1))

  module _ (unspent : Unspent T C P) (out : HandsOut unspent) where
    -- where nobody is attached, nothing waits
    pub spent_hands_nothing : unspent.end.attached ≡ 0 → HasNothing unspent
    spent_hands_nothing gone = record {
      outcome = none_at unspent.outcome (λ r e. ((out.outcome r).0 e).0 gone);
      callback = none_at unspent.callback (λ c e. ((out.callback c).0 e).0 gone);
      proxy = none_at unspent.proxy (λ k e. ((out.proxy k).0 e).0 gone);
    }

    never_waiting : (inline : Bool) → state.Start ≡ waiting_state inline → ⊥
    never_waiting true e = cc
    never_waiting false e = cc

    pub start_hands_nothing : unspent.end.state ≡ state.Start → HasNothing unspent
    start_hands_nothing start = record {
      outcome = none_at unspent.outcome (λ r e. let clash : state.Start ≡ state.OnlyResult = sym start ∙ ((out.outcome r).0 e).1 in cc);
      callback = none_at unspent.callback (λ c e. let w = ((out.callback c).0 e).1 in never_waiting w.0 (sym start ∙ w.1));
      proxy = none_at unspent.proxy (λ k e. let clash : state.Start ≡ state.Proxy = sym start ∙ ((out.proxy k).0 e).1 in cc);
    }

  -- the callback in a slot, with its allowance
  pub callback_there : (held : Held T C P) (c : C) → callback_of held ≡ Some c → (inline : Bool) × (held ≡ Some (item.Callback record { callback = c; inline = inline }))
  callback_there None c e = cc
  callback_there (Some (item.Outcome r)) c e = cc
  callback_there (Some (item.Callback d)) c e = let same : d.callback ≡ c = cc in (d.inline, ap (λ x. Some (item.Callback record { callback = x; inline = d.inline })) same)
  callback_there (Some (item.Proxy k)) c e = cc

  -- what is handed out, by what stood in each slot
  pub hands_out : (unspent : Unspent T C P) (s : CoreState) (n : ℕ) (slots : List (Held T C P)) (result_slot callback_slot proxy_slot : Held T C P)
      → get_elem? slots 0 ≡ maybe.some result_slot → get_elem? slots 1 ≡ maybe.some callback_slot → get_elem? slots 2 ≡ maybe.some proxy_slot
      → unspent.end ≡ record { state = s; attached = n; slots = slots }
      → ((r : Try T) → (unspent.outcome ≡ Some r) ↔ ((n ≢ 0) × (s ≡ state.OnlyResult) × (result_slot ≡ Some (item.Outcome r))))
      → ((c : C) → (unspent.callback ≡ Some c) ↔ ((n ≢ 0) × IsWaiting s × (callback_of callback_slot ≡ Some c)))
      → ((k : P) → (unspent.proxy ≡ Some k) ↔ ((n ≢ 0) × (s ≡ state.Proxy) × (proxy_slot ≡ Some (item.Proxy k))))
      → HandsOut unspent
  hands_out unspent s n slots result_slot callback_slot proxy_slot at_result at_callback at_proxy is outcome callback proxy =
      let is_s : unspent.end.state ≡ s = ap (λ (e : SeenEnd T C P). e.state) is in
      let is_n : unspent.end.attached ≡ n = ap (λ (e : SeenEnd T C P). e.attached) is in
      let there : (k : ℕ) (x : Held T C P) → get_elem? slots k ≡ maybe.some x → get_elem? unspent.end.slots k ≡ maybe.some x = λ k x e. ap (λ (z : SeenEnd T C P). get_elem? z.slots k) is ∙ e in
      record {
        outcome = λ r. (
          (λ e. let h = (outcome r).0 e in ((λ z. h.0 (sym is_n ∙ z)), is_s ∙ h.1, there 0 _ (at_result ∙ ap (λ x. maybe.some x) h.2))),
          (λ h. (outcome r).1 ((λ z. h.0 (is_n ∙ z)), sym is_s ∙ h.1, some-injective _ _ (sym (there 0 _ at_result) ∙ h.2))),
        );
        callback = λ c. (
          (λ e. let h = (callback c).0 e in let held = callback_there callback_slot c h.2 in ((λ z. h.0 (sym is_n ∙ z)), (h.1.0, is_s ∙ h.1.1), (held.0, there 1 _ (at_callback ∙ ap (λ x. maybe.some x) held.1)))),
          (λ h. (callback c).1 ((λ z. h.0 (is_n ∙ z)), (h.1.0, sym is_s ∙ h.1.1), ap callback_of (some-injective _ _ (sym (there 1 _ at_callback) ∙ h.2.1)))),
        );
        proxy = λ k. (
          (λ e. let h = (proxy k).0 e in ((λ z. h.0 (sym is_n ∙ z)), is_s ∙ h.1, there 2 _ (at_proxy ∙ ap (λ x. maybe.some x) h.2))),
          (λ h. (proxy k).1 ((λ z. h.0 (is_n ∙ z)), sym is_s ∙ h.1, some-injective _ _ (sym (there 2 _ at_proxy) ∙ h.2))),
        );
      }

  -- where a seat still has the key, nothing was begun
  pub unbegun_words : (id : ℕ) (v : View T C P) → v ≡ view.Key 0 → (words : List ℕ) (slots : List (Held T C P)) → Final (Seen StandsFor id v) words slots → words ≡ code_of state.Start ∷ 2 ∷ []
  unbegun_words id v e words slots (s, seen, is, long, same) = sym is ∙ (key_begins id 0 s seen.0 (seen.1 ∙ ap (λ w. maybe.some w) e)).0.words

  pub forgets : (id : ℕ) (v : View T C P) (words : List ℕ) (slots : List (Held T C P)) → Final (Seen StandsFor id v) words slots → Final StandsFor words slots
  forgets id v words slots (s, seen, is, long, same) = (s, seen.0, is, long, same)

-- after three takes no slot is filled
pub emptied : (filled : List Bool) (k : ℕ) → k < 3 → slice_index_or (slice_set (slice_set (slice_set filled 0 false) 1 false) 2 false) k false ≡ false
emptied [] k lt = refl
emptied (a ∷ []) zero lt = refl
emptied (a ∷ []) (suc k) lt = refl
emptied (a ∷ b ∷ []) zero lt = refl
emptied (a ∷ b ∷ []) (suc zero) lt = refl
emptied (a ∷ b ∷ []) (suc (suc k)) lt = refl
emptied (a ∷ b ∷ c ∷ xs) zero lt = refl
emptied (a ∷ b ∷ c ∷ xs) (suc zero) lt = refl
emptied (a ∷ b ∷ c ∷ xs) (suc (suc zero)) lt = refl
emptied (a ∷ b ∷ c ∷ xs) (suc (suc (suc k))) lt = absurd (omega arith)

-- one value at one place
pub at_one_place : {A : Type 0} (xs : List A) (k : ℕ) (a b : A) → get_elem? xs k ≡ maybe.some a → get_elem? xs k ≡ maybe.some b → b ≡ a
at_one_place xs k a b e f = some-injective b a (sym f ∙ e)

-- what isn't None is Some
pub there_is : {A : Type 0} (o : Option A) → is_none o ≡ false → IsSome o
there_is None e = let clash : true ≡ false = e in cc
there_is (Some a) e = refl

module _ {T C P : Type 0} where
  -- an end whose words are these
  pub is_end : (end : SeenEnd T C P) (words : List ℕ) (slots : List (Held T C P)) → Final StandsFor words slots → words ≡ code_of end.state ∷ end.attached ∷ [] → end.slots ≡ slots → IsEnd end
  is_end end words slots final are held = subst (λ (z : List ℕ × List (Held T C P)). Final StandsFor z.0 z.1) (λ i. (are i, (sym held) i)) final

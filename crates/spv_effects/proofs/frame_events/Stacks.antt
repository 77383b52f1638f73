-- Lists of works whose last one comes first.
use Rattle.std.proofs.Common.{◌≡◌, ◌<◌, ◌+◌, Bool, true, false, ◌&&◌, cond, List, [], ◌∷◌, ◌++◌, Result, Ok, Err, OnOk, refl, sym, ap, ◌∙◌, arith}
use Rattle.std.proofs.lemmas.Bool.{false≢true}
use Rattle.std.proofs.lemmas.List.{append_assoc, append-nil}
use Rattle.spv_logic.specs.declared.names.names.Symbol.{Symbol}
use Rattle.spv_effects.specs.frame_walk.Events as plain
use Rattle.spv_effects.specs.declared.frame_events.works.Work.{Work}
use Rattle.spv_effects.specs.declared.frame_events.works.Work.TheVariants as work
use Rattle.spv_effects.specs.declared.frame_events.works.Opened.{Opened}
use Rattle.spv_effects.specs.declared.frame_events.events.Event.{Event}
use Rattle.spv_effects.specs.frame_events.EventViews.{event_of, events_of}
use Rattle.spv_effects.specs.frame_events.Works.{work_events, work_weight, stack_events, stack_weight, is_nothing, behind, opened_events, Pushed, PushedAll, IsStep}

stack_last : (own : Symbol → Bool) (works : List Work) (w : Work) → stack_events own (works ++ w ∷ []) ≡ work_events own w ++ stack_events own works
stack_last own [] w = sym (append-nil (work_events own w))
stack_last own (v ∷ works) w =
    ap (λ (es : List plain.Event). es ++ work_events own v) (stack_last own works w) ∙ append_assoc (work_events own w) (stack_events own works) (work_events own v)

weight_last : (works : List Work) (w : Work) → stack_weight (works ++ w ∷ []) ≡ work_weight w + stack_weight works
weight_last [] w = refl
weight_last (v ∷ works) w = omega (arith, weight_last works w)

-- nothing at the end is no list at the end
behind_is : (es : List plain.Event) (b : Bool) (fs : List plain.Event) → (b ≡ true → fs ≡ []) → es ++ fs ≡ behind es b fs
behind_is es true fs h = ap (λ (l : List plain.Event). es ++ l) (h refl) ∙ append-nil es
behind_is es false fs h = refl

no_events : (own : Symbol → Bool) (w : Work) → is_nothing w ≡ true → work_events own w ≡ []
no_events own (work.Statement s) h = absurd (false≢true h)
no_events own (work.Statements s) h = absurd (false≢true h)
no_events own (work.Arms s) h = absurd (false≢true h)
no_events own (work.Annotation s) h = absurd (false≢true h)
no_events own (work.Noted s) h = absurd (false≢true h)
no_events own (work.AllNoted s) h = absurd (false≢true h)
no_events own (work.Value s) h = absurd (false≢true h)
no_events own (work.Place s b) h = absurd (false≢true h)
no_events own (work.Selectors s b) h = absurd (false≢true h)
no_events own (work.Call s) h = absurd (false≢true h)
no_events own (work.Arguments s) h = absurd (false≢true h)
no_events own (work.Head s b) h = absurd (false≢true h)
no_events own (work.Known s) h = absurd (false≢true h)
no_events own work.Nothing h = refl

pub pushed : (old new : List Work) (w : Work) → is_nothing w ≡ false → new ≡ old ++ w ∷ [] → Pushed w old new
pushed old new w some h = record {
  events = λ own. ap (stack_events own) h ∙ stack_last own old w;
  weight = ap stack_weight h ∙ weight_last old w ∙ ap (λ b. cond b 0 (work_weight w) + stack_weight old) (sym some);
}

pub pushed_nothing : (works : List Work) (w : Work) → is_nothing w ≡ true → Pushed w works works
pushed_nothing works w none = record {
  events = λ own. ap (λ (l : List plain.Event). l ++ stack_events own works) (sym (no_events own w none));
  weight = let zero : cond (is_nothing w) 0 (work_weight w) ≡ 0 = ap (λ b. cond b 0 (work_weight w)) none in omega (arith, zero);
}

left_true : (a b : Bool) → a && b ≡ true → a ≡ true
left_true true b h = refl
left_true false b h = h

right_true : (a b : Bool) → a && b ≡ true → b ≡ true
right_true true b h = h
right_true false b h = absurd (false≢true h)

both_nothing : (own : Symbol → Bool) (v w : Work) → is_nothing v && is_nothing w ≡ true → behind (work_events own v) (is_nothing w) (work_events own w) ≡ []
both_nothing own v w h =
    sym (behind_is (work_events own v) (is_nothing w) (work_events own w) (no_events own w))
    ∙ ap (λ (l : List plain.Event). work_events own v ++ l) (no_events own w (right_true (is_nothing v) (is_nothing w) h))
    ∙ append-nil (work_events own v) ∙ no_events own v (left_true (is_nothing v) (is_nothing w) h)

opened_is : (own : Symbol → Bool) (o : Opened) → work_events own o.first ++ (work_events own o.second ++ work_events own o.third) ≡ opened_events own o
opened_is own o =
    ap (λ (l : List plain.Event). work_events own o.first ++ l) (behind_is (work_events own o.second) (is_nothing o.third) (work_events own o.third) (no_events own o.third))
    ∙ behind_is (work_events own o.first) (is_nothing o.second && is_nothing o.third)
    (behind (work_events own o.second) (is_nothing o.third) (work_events own o.third)) (both_nothing own o.second o.third)

pub pushed_all : (o : Opened) (old lower middle new : List Work) → Pushed o.third old lower → Pushed o.second lower middle → Pushed o.first middle new → PushedAll o old new
pushed_all o old lower middle new a b c = record {
  events = λ own.
      c.events own ∙ ap (λ (l : List plain.Event). work_events own o.first ++ l) (b.events own ∙ ap (λ (l : List plain.Event). work_events own o.second ++ l) (a.events own))
      ∙ ap (λ (l : List plain.Event). work_events own o.first ++ l) (sym (append_assoc (work_events own o.second) (work_events own o.third) (stack_events own old)))
      ∙ sym (append_assoc (work_events own o.first) (work_events own o.second ++ work_events own o.third) (stack_events own old))
      ∙ ap (λ (l : List plain.Event). l ++ stack_events own old) (opened_is own o);
  weight = omega (arith, a.weight, b.weight, c.weight);
}

pub on_ok : {T E P Q : Type 0} (r : Result T E) → OnOk r P → (P → Q) → OnOk r Q
on_ok (Ok t) p next = next p
on_ok (Err e) p next = tt

-- ---- a turn of the loop

events_last : (out : List Event) (e : Event) → events_of (out ++ e ∷ []) ≡ events_of out ++ event_of e ∷ []
events_last [] e = refl
events_last (d ∷ out) e = ap (λ (l : List plain.Event). event_of d ∷ l) (events_last out e)

module _ (own : Symbol → Bool) (w : Work) (works popped new : List Work) (before after : List Event) (on : works ≡ popped ++ w ∷ []) (step : IsStep own w popped new before after) where
  pub turn_falls : stack_weight new < stack_weight works
  turn_falls = omega (arith, step.falls, ap stack_weight on, weight_last popped w)

  pub turn_same : events_of after ++ stack_events own new ≡ events_of before ++ stack_events own works
  turn_same = step.same ∙ ap (λ (l : List plain.Event). events_of before ++ l) (sym (ap (stack_events own) on ∙ stack_last own popped w))

-- What is computed of a HAVING is what it names, or its first fault.
use Rattle.std.proofs.Common.{◌≡◌, refl, ap, sym, ◌∙◌, ℕ, ◌+◌, Bool, true, false, if◌then◌else◌, List, [], ◌∷◌, ◌++◌, filter, flat_map, length, map, Option, Some, None, Result, Ok, Err, arith, append_assoc, append-nil}
use Rattle.std.specs.List.{AllByRecursion, range_with_len}
use Rattle.values.specs.Faults.{◌>>=◌, wanted_if}
use Rattle.schema.specs.declared.schema.Kind.{Kind}
use Rattle.sql_parse.specs.declared.statement.HavingCondition.{HavingCondition}
use Rattle.sql_parse.specs.declared.statement.HavingCondition.TheVariants.{Compare, IsNull, Not, And, Or}
use Rattle.sql_parse.specs.declared.statement.HavingTerm.{HavingTerm}
use Rattle.sql_parse.specs.declared.statement.HavingTerm.TheVariants as written
use Rattle.sql_parse.specs.declared.statement.ItemValue.{ItemValue}
use Rattle.sql_parse.specs.declared.statement.ItemValue.TheVariants as text
use Rattle.sql_parse.specs.declared.statement.Operator.{Operator}
use Rattle.query.specs.declared.query.Item.{Item}
use Rattle.query.specs.declared.query.Item.TheVariants as item
use Rattle.query.specs.Bound.{aggregate_numbers}
use Rattle.binder.specs.declared.fault.BindReason.TheVariants.{MixedKinds, UngroupedColumn}
use Rattle.binder.specs.declared.fault.BindRefusal.{BindRefusal}
use Rattle.binder.specs.declared.having.Asked.{Asked}
use Rattle.binder.specs.Analyses.{condition_asked_faults, all_asked_faults, having_faults}
use Rattle.binder.specs.HavingShapes.{HavingShape, named, having_shape, having_values}
use Rattle.binder.specs.Havings.{is_key, with_column, with_aggregate, column_asked, aggregate_asked, term_asked, all_asked, condition_asked, having_asked}
use Rattle.binder.specs.Kinds.{are_comparable}
use Rattle.binder.specs.Lookups.{refusal}
use Rattle.binder.specs.Outputs.{aggregate_in, is_call}
use Rattle.binder.specs.Parts.{name_faults, the_column, unless, aggregate_faults, the_aggregate, aggregate_kind, term_asked_faults, asked_kind, the_item, the_asked}
use Rattle.binder.specs.Scopes.{Scopes, meant, place_in_text}
use Rattle.binder.proofs.HavingEquations.{each-having, shape-Compare, shape-IsNull, shape-Not, shape-And, shape-Or, asked-Compare, asked-IsNull, asked-Not, asked-And, asked-Or, faults-Compare, faults-IsNull, faults-Not, faults-And, faults-Or}
use Rattle.binder.proofs.PartAnswers.{answer, then-answer, made-answer, if-answer, name-answer, aggregate-answer}

-- ---- what is named

abbrev asked_of : List Item → ℕ → Asked
asked_of items number = record { items = items; next_aggregate = number }

asked-is : (xs ys : List Item) (m n : ℕ) → xs ≡ ys → m ≡ n → asked_of xs m ≡ asked_of ys n
asked-is xs ys m n same also = ap (λ items. asked_of items m) same ∙ ap (λ k. asked_of ys k) also

-- how many of the values are aggregates
abbrev pub calls : List ItemValue → ℕ
calls values = length (filter is_call values)

abbrev next_of : ℕ → ItemValue → ℕ
next_of number v = if is_call v then number + 1 else number

calls-more : (number : ℕ) (v : ItemValue) (values : List ItemValue) → next_of number v + calls values ≡ number + calls (v ∷ values)
calls-more number (text.Column c) values = refl
calls-more number (text.Aggregate call) values = omega arith

calls-append : (vs ws : List ItemValue) → calls (vs ++ ws) ≡ calls vs + calls ws
calls-append [] ws = omega arith
calls-append (text.Column c ∷ vs) ws = calls-append vs ws
calls-append (text.Aggregate call ∷ vs) ws = let more = calls-append vs ws in omega (arith, more)

module _ (scopes : Scopes) where
  -- what is asked behind these values
  abbrev pub behind_values : Asked → List ItemValue → Asked
  behind_values x values = asked_of (x.items ++ the_asked scopes x.next_aggregate values) (x.next_aggregate + calls values)

  asked-append : (number : ℕ) (vs ws : List ItemValue) → the_asked scopes number (vs ++ ws) ≡ the_asked scopes number vs ++ the_asked scopes (number + calls vs) ws
  asked-append number [] ws = let same : number ≡ number + 0 = omega arith in ap (λ n. the_asked scopes n ws) same
  asked-append number (v ∷ vs) ws = ap (λ items. the_item scopes number v ∷ items) (asked-append (next_of number v) vs ws ∙ ap (λ n. the_asked scopes (next_of number v) vs ++ the_asked scopes n ws) (calls-more number v vs))

  behind-none : (x : Asked) → behind_values x [] ≡ x
  behind-none x = asked-is _ _ _ _ (append-nil x.items) (omega arith)

  pub behind-append : (x : Asked) (vs ws : List ItemValue) → behind_values (behind_values x vs) ws ≡ behind_values x (vs ++ ws)
  behind-append x vs ws =
      let more = calls-append vs ws in
      asked-is _ _ _ _ (append_assoc x.items (the_asked scopes x.next_aggregate vs) (the_asked scopes (x.next_aggregate + calls vs) ws) ∙ ap (λ items. x.items ++ items) (sym (asked-append x.next_aggregate vs ws))) (omega (arith, more))

  -- its aggregates have the next numbers
  pub asked-numbers : (number : ℕ) (values : List ItemValue) → aggregate_numbers (the_asked scopes number values) ≡ range_with_len number (calls values)
  asked-numbers number [] = refl
  asked-numbers number (text.Column c ∷ values) = asked-numbers number values
  asked-numbers number (text.Aggregate call ∷ values) = ap (λ ns. number ∷ ns) (asked-numbers (number + 1) values)

  module _ (keys : List ℕ) where
    term-answer : (a : HavingTerm) (x : Asked) → term_asked scopes keys a x ≡ answer (term_asked_faults scopes keys a) (asked_kind scopes a, behind_values x (named a))
    term-answer (written.Column c) x =
        let found = the_column scopes c in
        then-answer (meant c scopes) (name_faults scopes c) found _ _ _ (name-answer scopes c)
        (if-answer (is_key keys found.column) UngroupedColumn (place_in_text c) (Some found.kind, with_column x found.column))
        ∙ ap (λ fs. answer fs (Some found.kind, with_column x found.column)) (sym (append-nil _))
        ∙ ap (λ n. answer (term_asked_faults scopes keys (written.Column c)) (Some found.kind, asked_of (x.items ++ item.Column found.column ∷ []) n)) (omega arith)
    term-answer (written.Aggregate call) x =
        made-answer (aggregate_in scopes call.function call.at call.column) (aggregate_faults scopes call.function call.at call.column) (the_aggregate scopes call.function call.column, aggregate_kind scopes call.function call.column)
        (λ found. (Some found.1, with_aggregate x found.0)) (aggregate-answer scopes call.function call.at call.column)
        ∙ ap (λ fs. answer fs (Some (aggregate_kind scopes call.function call.column), with_aggregate x (the_aggregate scopes call.function call.column))) (sym (append-nil _))
    term-answer (written.Literal v) x = ap (λ y. Ok (asked_kind scopes (written.Literal v), y)) (sym (behind-none x))

    abbrev Answers : HavingCondition → Type 0
    Answers c = (x : Asked) → condition_asked scopes keys c x ≡ answer (condition_asked_faults c scopes keys) (behind_values x (having_shape c).values)

    abbrev values_of : List HavingCondition → List ItemValue
    values_of cs = flat_map (λ c. c.values) (map having_shape cs)

    all-answer : (cs : List HavingCondition) → AllByRecursion Answers cs → (x : Asked) → all_asked (map (condition_asked scopes keys) cs) x
        ≡ answer (all_asked_faults (map condition_asked_faults cs) scopes keys) (behind_values x (values_of cs))
    all-answer [] each x = ap (λ y. Ok y) (sym (behind-none x))
    all-answer (c ∷ cs) each x =
        let values = (having_shape c).values in
        then-answer (condition_asked scopes keys c x) (condition_asked_faults c scopes keys) (behind_values x values) _ _ _ (each.0 x) (all-answer cs each.1 (behind_values x values))
        ∙ ap (λ y. answer (condition_asked_faults c scopes keys ++ all_asked_faults (map condition_asked_faults cs) scopes keys) y) (behind-append x values (values_of cs))

    pub condition-answer : (c : HavingCondition) → Answers c
    condition-answer = each-having Answers
        (λ a op b x. rw (asked-Compare scopes keys a op b, faults-Compare a op b, shape-Compare a op b)
        (then-answer (term_asked scopes keys a x) (term_asked_faults scopes keys a) (asked_kind scopes a, behind_values x (named a)) _ _ _ (term-answer a x)
        (then-answer (term_asked scopes keys b (behind_values x (named a))) (term_asked_faults scopes keys b) (asked_kind scopes b, behind_values (behind_values x (named a)) (named b)) _ _ _ (term-answer b (behind_values x (named a)))
        (if-answer (are_comparable (asked_kind scopes a) (asked_kind scopes b)) MixedKinds op.at _))
        ∙ ap (λ y. answer (term_asked_faults scopes keys a ++ (term_asked_faults scopes keys b ++ unless (are_comparable (asked_kind scopes a) (asked_kind scopes b)) MixedKinds op.at)) y) (behind-append x (named a) (named b))))
        (λ a x. rw (asked-IsNull scopes keys a, faults-IsNull a, shape-IsNull a)
        (made-answer (term_asked scopes keys a x) (term_asked_faults scopes keys a) (asked_kind scopes a, behind_values x (named a)) (λ tested. tested.1) (term-answer a x)))
        (λ c is x. rw (asked-Not scopes keys c, faults-Not c, shape-Not c) (is x))
        (λ cs each x. rw (asked-And scopes keys cs, faults-And cs, shape-And cs) (all-answer cs each x))
        (λ cs each x. rw (asked-Or scopes keys cs, faults-Or cs, shape-Or cs) (all-answer cs each x))

    pub having-answer : (having : Option HavingCondition) (number : ℕ) → having_asked scopes keys having (asked_of [] number)
        ≡ answer (having_faults scopes keys having) (asked_of (the_asked scopes number (having_values having)) (number + calls (having_values having)))
    having-answer None number = ap (λ n. Ok (asked_of [] n)) (omega arith)
    having-answer (Some h) number = condition-answer h (asked_of [] number)

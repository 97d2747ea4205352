-- The column numbers of each form of FROM, and of a query's items.
use Rattle.std.proofs.Common.{◌≡◌, ap, sym, ◌∙◌, ℕ, List, [], ◌∷◌, ◌++◌, map}
use Rattle.query.specs.declared.query.TableReference.{TableReference}
use Rattle.query.specs.declared.query.TableInstance.{TableInstance}
use Rattle.query.specs.declared.query.Cond.{Cond}
use Rattle.query.specs.declared.query.From.{From}
use Rattle.query.specs.declared.query.From.TheVariants as from
use Rattle.query.specs.declared.query.Block.{out-Block}
use Rattle.query.specs.declared.query.Query.{Query}
use Rattle.query.specs.Bound.{instance_numbers, item_number}
use Rattle.frame.specs.Frames.{from_frame, query_numbers}
use Rattle.frame.proofs.FrameEquations.{frame-Table, frame-Join, frame-LeftJoin, frame-Comma, frame-Block}

module _ (instances : List TableInstance) where
  abbrev pub numbers_of : From → List ℕ
  numbers_of f = (from_frame instances f).numbers

  pub numbers-Table : (f : From) (o : TableReference) → f ≡ from.Table o → instance_numbers instances o ≡ numbers_of f
  numbers-Table f o is = sym (ap numbers_of is ∙ ap (λ x. x.numbers) (frame-Table instances o))

  pub numbers-Join : (f left lent : From) (o : TableReference) (on : Cond) → f ≡ from.Join left o on → lent ≡ left → numbers_of lent ++ instance_numbers instances o ≡ numbers_of f
  numbers-Join f left lent o on is at = ap (λ x. numbers_of x ++ instance_numbers instances o) at ∙ sym (ap numbers_of is ∙ ap (λ x. x.numbers) (frame-Join instances left o on))

  pub numbers-LeftJoin : (f left lent : From) (o : TableReference) (on : Cond) → f ≡ from.LeftJoin left o on → lent ≡ left → numbers_of lent ++ instance_numbers instances o ≡ numbers_of f
  numbers-LeftJoin f left lent o on is at = ap (λ x. numbers_of x ++ instance_numbers instances o) at ∙ sym (ap numbers_of is ∙ ap (λ x. x.numbers) (frame-LeftJoin instances left o on))

  pub numbers-Comma : (f left right lent lent_right : From) → f ≡ from.Comma left right → lent ≡ left → lent_right ≡ right → numbers_of lent ++ numbers_of lent_right ≡ numbers_of f
  numbers-Comma f left right lent lent_right is at at_right =
      rw (at, at_right) (sym (ap numbers_of is ∙ ap (λ x. x.numbers) (frame-Comma instances left right)))

-- the items' numbers over those of the FROM
pub item-numbers : (q : Query) → map (item_number ((from_frame q.tables (out-Block q.block).from).numbers ∷ [])) (out-Block q.block).items ≡ query_numbers q
unfolding query_numbers
item-numbers q = sym (ap (λ b. b.shown []) (frame-Block q.tables q.block))

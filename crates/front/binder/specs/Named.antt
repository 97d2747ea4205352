-- The outputs of a SELECT by hash, as the specification sees them.
use Rattle.std.specs.Prelude.{◌≡◌, ℕ, List, [], ◌∷◌, filter, map, position, if◌then◌else◌, bytes_eq, Option, Some, None}
use Rattle.std.specs.Borrow.{Bor}
use Rattle.std.specs.HashMap as hash
use Rattle.std.specs.HashMap.{HashMap}
use Rattle.std.specs.List.{list_all}
use Rattle.binder.specs.contracts.named.IdentityPartialEq.TheImpl.{eq-value}
use Rattle.query.specs.declared.query.Column.{Column}
use Rattle.query.specs.declared.query.Item.{Item}
use Rattle.query.specs.declared.query.Item.TheVariants as item
use Rattle.binder.specs.declared.output.Output.{Output}
use Rattle.binder.specs.declared.named.Identity.{Identity}
use Rattle.binder.specs.declared.named.Identity.TheVariants as identity
use Rattle.binder.specs.declared.named.Sense.{Sense}
use Rattle.binder.specs.declared.named.Sense.TheVariants.{One, Several}
use Rattle.binder.specs.Ordering.{same_item}

-- what an item has in common with those that are the same column
abbrev pub identity_of : Item → Identity
identity_of (item.Column c) = identity.Column c.level c.place
identity_of (item.Aggregate n a) = identity.Aggregate n

-- what the items of a name are, in short
abbrev pub sense_of : List Item → Option Sense
sense_of [] = None
sense_of (i ∷ others) = Some (if list_all (λ j. same_item i j) others then One i else Several)

-- the same with one more item of the name
abbrev pub one_more : Option Sense → Item → Sense
one_more None i = One i
one_more (Some (One j)) i = if same_item j i then One j else Several
one_more (Some Several) i = Several

abbrev pub items_named : List ℕ → List Output → List Item
items_named name outputs = map (λ o. o.item) (filter (λ o. bytes_eq o.name name) outputs)

abbrev pub items_showing : Column → List Output → List Item
items_showing c outputs = map (λ o. o.item) (filter (λ o. same_item o.item (item.Column c)) outputs)

-- each column's first output is in the map
abbrev pub HasFirsts : {S : Type 0} → List Output → HashMap Identity ℕ S → Type 0
HasFirsts outputs firsts = (i : Item) → hash.get eq-value.it firsts (identity_of i) ≡ position (λ o. same_item o.item i) outputs

-- each name's outputs are in the map, in short
abbrev pub HasSenses : {S : Type 0} → List Output → HashMap (Bor (List ℕ)) Sense S → Type 0
HasSenses outputs senses = (q : List ℕ) → hash.get_by (λ k. bytes_eq q k.now) senses ≡ sense_of (items_named q outputs)

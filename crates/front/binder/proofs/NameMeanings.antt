-- What is computed for a name is what the name means, and its fault is the name's.
use Rattle.std.proofs.Common.{◌≡◌, refl, sym, ◌∙◌, ap, subst, inl, inr, ◌⊎◌, ℕ, suc, ◌+◌, Bool, true, false, if◌then◌else◌, List, [], ◌∷◌, ◌++◌, length, take, Option, Some, None, option_map, Result, Ok, Err, arith, bytes_eq, length-append}
use Rattle.std.proofs.lemmas.Slice.Eq.{bytes_eq-Decides}
use Rattle.values.specs.Faults.{wanted}
use Rattle.schema.specs.declared.schema.Kind.{Kind}
use Rattle.schema.specs.declared.schema.Column as entries
use Rattle.schema.specs.declared.schema.Table.{Table}
use Rattle.sql_parse.specs.declared.name.Name.{Name}
use Rattle.binder.specs.declared.scope.TypedColumn.{TypedColumn}
use Rattle.binder.specs.declared.fault.BindReason.{BindReason}
use Rattle.binder.specs.declared.fault.BindReason.TheVariants.{UnknownColumn, AmbiguousName}
use Rattle.binder.specs.declared.fault.BindRefusal.{BindRefusal}
use Rattle.binder.specs.Lookups.{find_column, refusal}
use Rattle.binder.specs.Scopes.{Known, Scope, Scopes, columns_named, named_in, at_level, only, plain, instance_named, in_instance, qualified, meant_by, meant, front_of}
use Rattle.binder.specs.Meanings.{IsFirst, IsOnly, IsColumn, IsInstance, columns_of, HasColumn, HasInstance, MeansPlain, PlainFault, MeansQualified, QualifiedFault, means_by, fault_by, NamesMean, NamesFail}
use Rattle.binder.proofs.FirstOnes.{none-here, first-here, first-behind, only-or-two, first-once, only-once, Listed, listed, listed-append, FoundColumn, found-column}

-- ---- the columns of one FROM

named-listed : (name : List ℕ) (n : ℕ) (scope : Scope) → named_in name n scope ≡ columns_named name n (columns_of scope)
named-listed name n [] = refl
named-listed name n (o ∷ scope) =
    ap (λ ls. columns_named name n o.entry.columns ++ ls) (named-listed name (n + length o.entry.columns) scope) ∙ sym (listed-append name n o.entry.columns (columns_of scope))

-- ---- plain names, where the innermost of the scopes has a level

-- the same as `MeansPlain`, with the level counted on
record PlainAt (name : Name) (level : ℕ) (scopes : Scopes) (found : TypedColumn) : Type 0 where
  outside : ℕ
  at : found.column.level ≡ level + outside
  scope : Scope
  innermost : IsFirst (HasColumn name) scopes outside scope
  column : entries.Column
  one : IsOnly (IsColumn name) (columns_of scope) found.column.place column
  kind : found.kind ≡ column.kind

PlainIs : Name → ℕ → Scopes → Result TypedColumn BindRefusal → Type 0
PlainIs name level scopes (Ok found) = PlainAt name level scopes found
PlainIs name level scopes (Err r) = (r.at ≡ name.at) × PlainFault r.reason name scopes

fault-behind : (reason : BindReason) (name : Name) (scope : Scope) (outer : Scopes) → (HasColumn name scope → ⊥) → PlainFault reason name outer → PlainFault reason name (scope ∷ outer)
fault-behind UnknownColumn name scope outer none fault = none-here (HasColumn name) scope outer none fault
fault-behind AmbiguousName name scope outer none (level, inner, first, two) = (suc level, inner, first-behind (HasColumn name) scope outer level inner none first, two)
fault-behind _ name scope outer none fault = fault

plain-behind : (name : Name) (level : ℕ) (scope : Scope) (outer : Scopes) (read : Result TypedColumn BindRefusal) → (HasColumn name scope → ⊥) → PlainIs name (level + 1) outer read → PlainIs name level (scope ∷ outer) read
unfolding PlainIs
plain-behind name level scope outer (Ok found) none is =
    let at = is.at in
    record { outside = suc is.outside; at = omega (arith, at); scope = is.scope; innermost = first-behind (HasColumn name) scope outer is.outside is.scope none is.innermost; column = is.column; one = is.one; kind = is.kind }
plain-behind name level scope outer (Err r) none is = (is.0, fault-behind r.reason name scope outer none is.1)

plain-here : (name : Name) (level : ℕ) (scope : Scope) (outer : Scopes) (ls : List (ℕ × Kind)) → Listed name.text 0 (columns_of scope) ls → PlainIs name (level + 1) outer (plain name (level + 1) outer)
    → PlainIs name level (scope ∷ outer) (only name level ls (plain name (level + 1) outer))
unfolding PlainIs
plain-here name level scope outer [] none outside = plain-behind name level scope outer (plain name (level + 1) outer) none outside
plain-here name level scope outer (x ∷ []) (i, column, one, at, kind) outside =
    let place : x.0 ≡ i = omega (arith, at) in
    record {
      outside = 0;
      at = omega arith;
      scope = scope;
      innermost = first-here (HasColumn name) scope outer (i, column, one.stands);
      column = column;
      one = subst (λ p. IsOnly (IsColumn name) (columns_of scope) p column) (sym place) one;
      kind = kind;
    }
plain-here name level scope outer (x ∷ y ∷ more) two outside = (refl, (0, scope, first-here (HasColumn name) scope outer (two.0, two.2, two.4), two))

plain-is : (name : Name) (level : ℕ) (scopes : Scopes) → PlainIs name level scopes (plain name level scopes)
unfolding plain PlainIs
plain-is name level [] = (refl, λ (i, scope, (at, holds)). cc)
plain-is name level (scope ∷ outer) =
    plain-here name level scope outer (named_in name.text 0 scope) (subst (Listed name.text 0 (columns_of scope)) (sym (named-listed name.text 0 scope)) (listed name.text 0 (columns_of scope))) (plain-is name (level + 1) outer)

-- ---- names with a table's name before them

-- the instance that is found, and the place of its first column, counted on from n
unfoldable pub FoundInstance : Name → ℕ → Scope → Option (ℕ × Table) → Type 0
FoundInstance table n scope None = HasInstance table scope → ⊥
FoundInstance table n scope (Some found) = (i : ℕ) × (o : Known) × IsFirst (IsInstance table) scope i o × (o.entry ≡ found.1) × (found.0 ≡ n + length (columns_of (take i scope)))

instance-behind : (table : Name) (n : ℕ) (o : Known) (scope : Scope) (found : Option (ℕ × Table)) → (o.name ≡ table.text → ⊥) → FoundInstance table (n + length o.entry.columns) scope found → FoundInstance table n (o ∷ scope) found
unfolding FoundInstance
instance-behind table n o scope None other none = none-here (IsInstance table) o scope other none
instance-behind table n o scope (Some found) other (i, p, first, entry, at) =
    (suc i, p, first-behind (IsInstance table) o scope i p other first, entry, omega (arith, at, length-append o.entry.columns (columns_of (take i scope))))

pub found-instance : (table : Name) (n : ℕ) (scope : Scope) → FoundInstance table n scope (instance_named table.text n scope)
unfolding FoundInstance
found-instance table n [] = λ (i, o, (at, holds)). cc
found-instance table n (o ∷ scope) = by (bytes_eq table.text o.name) refl (found-instance table (n + length o.entry.columns) scope) where
  by : (b : Bool) → bytes_eq table.text o.name ≡ b → FoundInstance table (n + length o.entry.columns) scope (instance_named table.text (n + length o.entry.columns) scope) → FoundInstance table n (o ∷ scope) (if b then Some (n, o.entry) else instance_named table.text (n + length o.entry.columns) scope)
  by true is more = (0, o, first-here (IsInstance table) o scope (sym ((bytes_eq-Decides table.text o.name).0 is)), refl, omega arith)
  by false is more =
      instance-behind table n o scope (instance_named table.text (n + length o.entry.columns) scope)
      (λ same. let yes : bytes_eq table.text o.name ≡ true = (bytes_eq-Decides table.text o.name).1 (sym same) in cc) more

record QualifiedAt (table name : Name) (level : ℕ) (scopes : Scopes) (found : TypedColumn) : Type 0 where
  outside : ℕ
  at : found.column.level ≡ level + outside
  scope : Scope
  innermost : IsFirst (HasInstance table) scopes outside scope
  before : ℕ
  reference : Known
  known : IsFirst (IsInstance table) scope before reference
  within : ℕ
  column : entries.Column
  named : IsFirst (IsColumn name) reference.entry.columns within column
  place : found.column.place ≡ length (columns_of (take before scope)) + within
  kind : found.kind ≡ column.kind

QualifiedIs : Name → Name → ℕ → Scopes → Result TypedColumn BindRefusal → Type 0
QualifiedIs table name level scopes (Ok found) = QualifiedAt table name level scopes found
QualifiedIs table name level scopes (Err r) = (r ≡ refusal UnknownColumn table.at) × QualifiedFault UnknownColumn table name scopes

unknown-behind : (table name : Name) (scope : Scope) (outer : Scopes) → (HasInstance table scope → ⊥) → QualifiedFault UnknownColumn table name outer → QualifiedFault UnknownColumn table name (scope ∷ outer)
unknown-behind table name scope outer none (inl nowhere) = inl (none-here (HasInstance table) scope outer none nowhere)
unknown-behind table name scope outer none (inr lacks) = inr (record {
  level = suc lacks.level;
  scope = lacks.scope;
  innermost = first-behind (HasInstance table) scope outer lacks.level lacks.scope none lacks.innermost;
  before = lacks.before;
  reference = lacks.reference;
  known = lacks.known;
  lacks = lacks.lacks;
})

qualified-behind : (table name : Name) (level : ℕ) (scope : Scope) (outer : Scopes) (read : Result TypedColumn BindRefusal) → (HasInstance table scope → ⊥) → QualifiedIs table name (level + 1) outer read → QualifiedIs table name level (scope ∷ outer) read
unfolding QualifiedIs
qualified-behind table name level scope outer (Ok found) none is =
    let at = is.at in
    record {
      outside = suc is.outside;
      at = omega (arith, at);
      scope = is.scope;
      innermost = first-behind (HasInstance table) scope outer is.outside is.scope none is.innermost;
      before = is.before;
      reference = is.reference;
      known = is.known;
      within = is.within;
      column = is.column;
      named = is.named;
      place = is.place;
      kind = is.kind;
    }
qualified-behind table name level scope outer (Err r) none is = (is.0, unknown-behind table name scope outer none is.1)

module _ (table name : Name) (level : ℕ) (scope : Scope) (outer : Scopes) (i : ℕ) (o : Known) (first : IsFirst (IsInstance table) scope i o) where
  innermost_here : IsFirst (HasInstance table) (scope ∷ outer) 0 scope
  innermost_here = first-here (HasInstance table) scope outer (i, o, first.stands)

  column-here : (n : ℕ) (p : Option (ℕ × entries.Column)) → n ≡ length (columns_of (take i scope)) → FoundColumn name.text n o.entry.columns p
      → QualifiedIs table name level (scope ∷ outer) (wanted (refusal UnknownColumn table.at) (option_map (λ found. at_level level (found.0, found.1.kind)) p))
  unfolding QualifiedIs
  column-here n None at lacks = (refl, inr (record { level = 0; scope = scope; innermost = innermost_here; before = i; reference = o; known = first; lacks = lacks }))
  column-here n (Some p) at (j, named, place) = record {
    outside = 0;
    at = omega arith;
    scope = scope;
    innermost = innermost_here;
    before = i;
    reference = o;
    known = first;
    within = j;
    column = p.1;
    named = named;
    place = omega (arith, at, place);
    kind = refl;
  }

qualified-here : (table name : Name) (level : ℕ) (scope : Scope) (outer : Scopes) (found : Option (ℕ × Table)) → FoundInstance table 0 scope found → QualifiedIs table name (level + 1) outer (qualified table name (level + 1) outer)
    → QualifiedIs table name level (scope ∷ outer) (in_instance table name level found (qualified table name (level + 1) outer))
unfolding FoundInstance
qualified-here table name level scope outer None none outside = qualified-behind table name level scope outer (qualified table name (level + 1) outer) none outside
qualified-here table name level scope outer (Some (n, entry)) (i, o, first, same, at) outside =
    column-here table name level scope outer i o first n (find_column n entry.columns name.text) (omega (arith, at))
    (subst (λ (e : Table). FoundColumn name.text n e.columns (find_column n entry.columns name.text)) (sym same) (found-column name.text n entry.columns))

qualified-is : (table name : Name) (level : ℕ) (scopes : Scopes) → QualifiedIs table name level scopes (qualified table name level scopes)
unfolding qualified QualifiedIs
qualified-is table name level [] = (refl, inl (λ (i, scope, (at, holds)). cc))
qualified-is table name level (scope ∷ outer) = qualified-here table name level scope outer (instance_named table.text 0 scope) (found-instance table 0 scope) (qualified-is table name (level + 1) outer)

-- ---- either

NameIs : Option Name → Name → Scopes → Result TypedColumn BindRefusal → Type 0
NameIs table name scopes (Ok found) = means_by table name scopes found
NameIs table name scopes (Err r) = (r.at ≡ (front_of table name).at) × fault_by r.reason table name scopes

plain-read : (name : Name) (scopes : Scopes) (read : Result TypedColumn BindRefusal) → PlainIs name 0 scopes read → NameIs None name scopes read
unfolding PlainIs NameIs
plain-read name scopes (Ok found) is =
    let at = is.at in
    let level : is.outside ≡ found.column.level = omega (arith, at) in
    record { scope = is.scope; innermost = subst (λ l. IsFirst (HasColumn name) scopes l is.scope) level is.innermost; column = is.column; one = is.one; kind = is.kind }
plain-read name scopes (Err r) is = is

qualified-read : (table name : Name) (scopes : Scopes) (read : Result TypedColumn BindRefusal) → QualifiedIs table name 0 scopes read → NameIs (Some table) name scopes read
unfolding QualifiedIs NameIs
qualified-read table name scopes (Ok found) is =
    let at = is.at in
    let level : is.outside ≡ found.column.level = omega (arith, at) in
    record {
      scope = is.scope;
      innermost = subst (λ l. IsFirst (HasInstance table) scopes l is.scope) level is.innermost;
      before = is.before;
      reference = is.reference;
      known = is.known;
      within = is.within;
      column = is.column;
      named = is.named;
      place = is.place;
      kind = is.kind;
    }
qualified-read table name scopes (Err r) is = rw is.0 (refl, is.1)

name-is : (table : Option Name) (name : Name) (scopes : Scopes) → NameIs table name scopes (meant_by table name scopes)
name-is None name scopes = plain-read name scopes (plain name 0 scopes) (plain-is name 0 scopes)
name-is (Some table) name scopes = qualified-read table name scopes (qualified table name 0 scopes) (qualified-is table name 0 scopes)

-- ---- a name means one column, or has one fault

abbrev typed : ℕ → ℕ → Kind → TypedColumn
typed level place kind = record { column = record { level = level; place = place }; kind = kind }

plain-once : (name : Name) (scopes : Scopes) (f g : TypedColumn) → MeansPlain name scopes f → MeansPlain name scopes g → f ≡ g
plain-once name scopes f g one other =
    let at = first-once (HasColumn name) scopes f.column.level g.column.level one.scope other.scope one.innermost other.innermost in
    let there = rw at.1 at one.one in
    let place = only-once (IsColumn name) (columns_of other.scope) f.column.place g.column.place one.column other.column there other.one in
    let level = at.0 in
    let spot = place.0 in
    let kind : f.kind ≡ g.kind = one.kind ∙ ap (λ (c : entries.Column). c.kind) place.1 ∙ sym other.kind in
    let all : typed f.column.level f.column.place f.kind ≡ typed g.column.level g.column.place g.kind = cc in
    all

plain-or-fault : (reason : BindReason) (name : Name) (scopes : Scopes) (f : TypedColumn) → MeansPlain name scopes f → PlainFault reason name scopes → ⊥
plain-or-fault UnknownColumn name scopes f is none = none (f.column.level, is.scope, is.innermost.stands)
plain-or-fault AmbiguousName name scopes f is (level, scope, innermost, two) =
    let at = first-once (HasColumn name) scopes f.column.level level is.scope scope is.innermost innermost in
    only-or-two (IsColumn name) (columns_of scope) f.column.place is.column (rw at.1 at is.one) two
plain-or-fault _ name scopes f is fault = fault

qualified-once : (table name : Name) (scopes : Scopes) (f g : TypedColumn) → MeansQualified table name scopes f → MeansQualified table name scopes g → f ≡ g
qualified-once table name scopes f g one other =
    let at = first-once (HasInstance table) scopes f.column.level g.column.level one.scope other.scope one.innermost other.innermost in
    let known = rw at.1 at one.known in
    let instance = first-once (IsInstance table) other.scope one.before other.before one.reference other.reference known other.known in
    let named = rw instance.1 at one.named in
    let column = first-once (IsColumn name) other.reference.entry.columns one.within other.within one.column other.column named other.named in
    let scope = at.1 in
    let before = instance.0 in
    let within = column.0 in
    let level = at.0 in
    let spot : f.column.place ≡ g.column.place =
    one.place ∙ ap (λ (s : Scope). length (columns_of (take one.before s)) + one.within) scope ∙ ap (λ b. length (columns_of (take b other.scope)) + one.within) before
    ∙ ap (λ w. length (columns_of (take other.before other.scope)) + w) within ∙ sym other.place in
    let kind : f.kind ≡ g.kind = one.kind ∙ ap (λ (c : entries.Column). c.kind) column.1 ∙ sym other.kind in
    let all : typed f.column.level f.column.place f.kind ≡ typed g.column.level g.column.place g.kind = cc in
    all

qualified-or-unknown : (table name : Name) (scopes : Scopes) (f : TypedColumn) → MeansQualified table name scopes f → QualifiedFault UnknownColumn table name scopes → ⊥
qualified-or-unknown table name scopes f is (inl none) = none (f.column.level, is.scope, is.innermost.stands)
qualified-or-unknown table name scopes f is (inr lacks) =
    let at = first-once (HasInstance table) scopes f.column.level lacks.level is.scope lacks.scope is.innermost lacks.innermost in
    let known = rw at.1 at is.known in
    let instance = first-once (IsInstance table) lacks.scope is.before lacks.before is.reference lacks.reference known lacks.known in
    let named = rw instance.1 at is.named in
    lacks.lacks (is.within, is.column, named.stands)

-- a qualified name has no other fault
only-unknown : (reason : BindReason) (table name : Name) (scopes : Scopes) → QualifiedFault reason table name scopes → (reason ≡ UnknownColumn) × QualifiedFault UnknownColumn table name scopes
only-unknown UnknownColumn table name scopes fault = (refl, fault)
only-unknown _ table name scopes fault = absurd fault

-- a plain name has one of two faults
plain-fault : (reason : BindReason) (name : Name) (scopes : Scopes) → PlainFault reason name scopes
    → ((reason ≡ UnknownColumn) × PlainFault UnknownColumn name scopes) ⊎ ((reason ≡ AmbiguousName) × PlainFault AmbiguousName name scopes)
plain-fault UnknownColumn name scopes fault = inl (refl, fault)
plain-fault AmbiguousName name scopes fault = inr (refl, fault)
plain-fault _ name scopes fault = absurd fault

unknown-or-ambiguous : (name : Name) (scopes : Scopes) → PlainFault UnknownColumn name scopes → PlainFault AmbiguousName name scopes → ⊥
unknown-or-ambiguous name scopes none (level, scope, innermost, two) = none (level, scope, innermost.stands)

plain-fault-once : (q r : BindReason) (name : Name) (scopes : Scopes) → PlainFault q name scopes → PlainFault r name scopes → q ≡ r
plain-fault-once q r name scopes f g = by (plain-fault q name scopes f) (plain-fault r name scopes g) where
  by : ((q ≡ UnknownColumn) × PlainFault UnknownColumn name scopes) ⊎ ((q ≡ AmbiguousName) × PlainFault AmbiguousName name scopes)
      → ((r ≡ UnknownColumn) × PlainFault UnknownColumn name scopes) ⊎ ((r ≡ AmbiguousName) × PlainFault AmbiguousName name scopes) → q ≡ r
  by (inl (x, a)) (inl (y, b)) = x ∙ sym y
  by (inl (x, a)) (inr (y, b)) = absurd (unknown-or-ambiguous name scopes a b)
  by (inr (x, a)) (inl (y, b)) = absurd (unknown-or-ambiguous name scopes b a)
  by (inr (x, a)) (inr (y, b)) = x ∙ sym y

fault-once : (table : Option Name) (q r : BindReason) (name : Name) (scopes : Scopes) → fault_by q table name scopes → fault_by r table name scopes → q ≡ r
fault-once None q r name scopes f g = plain-fault-once q r name scopes f g
fault-once (Some table) q r name scopes f g = (only-unknown q table name scopes f).0 ∙ sym (only-unknown r table name scopes g).0

means-once : (table : Option Name) (name : Name) (scopes : Scopes) (f g : TypedColumn) → means_by table name scopes f → means_by table name scopes g → f ≡ g
means-once None name scopes f g = plain-once name scopes f g
means-once (Some table) name scopes f g = qualified-once table name scopes f g

means-or-fault : (table : Option Name) (name : Name) (scopes : Scopes) (f : TypedColumn) (reason : BindReason) → means_by table name scopes f → fault_by reason table name scopes → ⊥
means-or-fault None name scopes f reason is fault = plain-or-fault reason name scopes f is fault
means-or-fault (Some table) name scopes f reason is fault = qualified-or-unknown table name scopes f is (only-unknown reason table name scopes fault).1

-- ---- the laws

module _ (table : Option Name) (name : Name) (scopes : Scopes) where
  abbrev Read : Type 0
  Read = Result TypedColumn BindRefusal

  gives-meaning : (read : Read) (found : TypedColumn) → NameIs table name scopes read → read ≡ Ok found → means_by table name scopes found
  unfolding NameIs
  gives-meaning (Ok f) found is same = let e : f ≡ found = cc same in subst (means_by table name scopes) e is
  gives-meaning (Err r) found is same = cc same

  meaning-given : (read : Read) (found : TypedColumn) → NameIs table name scopes read → means_by table name scopes found → read ≡ Ok found
  unfolding NameIs
  meaning-given (Ok f) found is means = ap (λ (x : TypedColumn). Ok x) (means-once table name scopes f found is means)
  meaning-given (Err r) found is means = absurd (means-or-fault table name scopes found r.reason means is.1)

  gives-fault : (read : Read) (r : BindRefusal) → NameIs table name scopes read → read ≡ Err r → (r.at ≡ (front_of table name).at) × fault_by r.reason table name scopes
  unfolding NameIs
  gives-fault (Ok f) r is same = cc same
  gives-fault (Err e) r is same = let q : e ≡ r = cc same in subst (λ (r : BindRefusal). (r.at ≡ (front_of table name).at) × fault_by r.reason table name scopes) q is

  fault-given : (read : Read) (r : BindRefusal) → NameIs table name scopes read → (r.at ≡ (front_of table name).at) × fault_by r.reason table name scopes → read ≡ Err r
  unfolding NameIs
  fault-given (Ok f) r is fault = absurd (means-or-fault table name scopes f r.reason is fault.1)
  fault-given (Err e) r is fault =
      let at : e.at ≡ r.at = is.0 ∙ sym fault.0 in
      let why : e.reason ≡ r.reason = fault-once table e.reason r.reason name scopes is.1 fault.1 in
      let all : refusal e.reason e.at ≡ refusal r.reason r.at = cc in
      ap (λ (x : BindRefusal). Err x) all

pub names_mean : NamesMean
names_mean c scopes found = (
  gives-meaning c.table c.name scopes (meant c scopes) found (name-is c.table c.name scopes),
  meaning-given c.table c.name scopes (meant c scopes) found (name-is c.table c.name scopes),
)

pub names_fail : NamesFail
names_fail c scopes r = (
  gives-fault c.table c.name scopes (meant c scopes) r (name-is c.table c.name scopes),
  fault-given c.table c.name scopes (meant c scopes) r (name-is c.table c.name scopes),
)

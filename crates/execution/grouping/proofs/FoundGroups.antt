-- A row's key among those of the groups' first rows: its place, and a search along the groups with its hash.
use Rattle.std.proofs.Common.{◌≡◌, ◌≢◌, refl, ap, sym, ◌∙◌, ℕ, zero, suc, [], ◌∷◌, ◌++◌, ◌+◌, ◌<◌, ◌≤◌, inl, inr, Bool, true, false, List, length, get_or, map, arith}
use Rattle.std.proofs.lemmas.Bool.{cases_lt}
use Rattle.std.proofs.lemmas.List.{get_or-map, length-map, map-append}
use Rattle.schema.specs.Databases.{Row}
use Rattle.store.specs.Keys.{key_eq, key_decides, key_equiv}
use Rattle.grouping.specs.declared.group_hashes.GroupHashes.{GroupHashes}
use Rattle.grouping.specs.GroupChains.{IsLast}
use Rattle.grouping.specs.GroupHashes.{HasChains, hash_at}
use Rattle.grouping.specs.Groups.{first_seen, with_founder}
use Rattle.grouping.specs.KeyBuckets.{AreHashed, IsGroup, key_hash}
use Rattle.grouping.proofs.FirstSeen.{found-place, other-place, place, seen-unlike}
use Rattle.grouping.proofs.GroupHashes.{IsSearched, last-alike, search-begun, search-next}

module _ (key : ℕ → Row) (before : List ℕ) (n : ℕ) where
  abbrev firsts : List ℕ
  firsts = first_seen (λ a b. key_eq (key a) (key b)) before

  -- the number of a row's group is its key's place
  pub group-place : (group : ℕ) → IsGroup (map key firsts) (key n) group → group ≡ place key key_eq key_equiv before n
  group-place group of = elim (cases_lt group (length firsts)) [
    | inl below ↦
        let is : key n ≡ key (get_or firsts group 0) = of.same (omega (arith, below, many)) ∙ get_or-map key firsts group 0 [] below in
        sym (found-place key key_eq key_equiv n firsts group 0 (seen-unlike key key_eq key_equiv before) below (ap (key_eq (key n)) (sym is) ∙ key_equiv.refl (key n)))
    | inr past ↦
        let last : group ≡ length firsts = let within = of.within in omega (arith, within, past, many) in
        last ∙ sym (other-place key key_eq key_equiv n firsts 0 (λ j below. by (key_eq (key n) (key (get_or firsts j 0))) refl (λ e. of.new (last ∙ sym many) j (omega (arith, below, many)) (e ∙ sym (get_or-map key firsts j 0 [] below)))))
  ]
    where
      many : length (map key firsts) ≡ length firsts
      many = length-map firsts key

      by : {x y : Row} (b : Bool) → key_eq x y ≡ b → x ≢ y → key_eq x y ≡ false
      by true is not = absurd (not ((key_decides _ _).0 is))
      by false is not = is

-- the first rows, one more where a row founds a group
pub founder-within : {X : Type 0} (firsts : List X) (group : ℕ) (row : X) → group < length firsts → with_founder firsts group row ≡ firsts
founder-within [] group row below = absurd (omega (arith, below))
founder-within (f ∷ firsts) zero row below = refl
founder-within (f ∷ firsts) (suc group) row below = ap (λ l. f ∷ l) (founder-within firsts group row (omega (arith, below)))

pub founder-past : {X : Type 0} (firsts : List X) (group : ℕ) (row : X) → length firsts ≤ group → with_founder firsts group row ≡ firsts ++ row ∷ []
founder-past [] group row past = refl
founder-past (f ∷ firsts) zero row past = absurd (omega (arith, past))
founder-past (f ∷ firsts) (suc group) row past = ap (λ l. f ∷ l) (founder-past firsts group row (omega (arith, past)))

pub founder-map : {X Y : Type 0} (f : X → Y) (xs : List X) (group : ℕ) (x : X) → map f (with_founder xs group x) ≡ with_founder (map f xs) group (f x)
founder-map f [] group x = refl
founder-map f (y ∷ xs) zero x = refl
founder-map f (y ∷ xs) (suc group) x = ap (λ l. f y ∷ l) (founder-map f xs group x)

-- ---- a search along the groups with a key's hash

module _ (keys : List Row) (h : GroupHashes) (is : AreHashed keys h) where
  abbrev key-at : ℕ → Row
  key-at g = get_or keys g []

  many-hashes : length h.hashes.items ≡ length keys
  many-hashes = ap length is.hashes_are ∙ length-map keys key_hash

  hash-of : (g : ℕ) → g < length keys → hash_at h.hashes.items g ≡ key_hash (key-at g)
  hash-of g below = ap (λ l. get_or l g 0) is.hashes_are ∙ get_or-map key_hash keys g [] 0 below

  pub hash-count : length h.hashes.items ≡ length keys
  hash-count = many-hashes

  pub key-search : (wanted : Row) (hash last : ℕ) → hash ≡ key_hash wanted → IsLast (hash_at h.hashes.items) hash (length h.hashes.items) last → IsSearched key_hash key-at wanted (length keys) last
  key-search wanted hash last at found =
      search-begun key_hash key-at wanted (length keys) last
      (last-alike (hash_at h.hashes.items) (λ g. key_hash (key-at g)) (key_hash wanted) (length keys) last hash-of
      (rw (sym at, sym many-hashes) found))

  pub key-search-on : (wanted : Row) (from group before : ℕ) → from ≡ group + 1 → group < length keys → IsSearched key_hash key-at wanted (length keys) from → wanted ≢ key-at group
      → IsLast (hash_at h.hashes.items) (hash_at h.hashes.items group) group before → IsSearched key_hash key-at wanted (length keys) before
  key-search-on wanted from group before at below old other found =
      search-next key_hash key-at wanted (length keys) from group before at old other
      (last-alike (hash_at h.hashes.items) (λ g. key_hash (key-at g)) (key_hash (key-at group)) group before (λ g low. hash-of g (omega (arith, low, below)))
      (rw (sym (hash-of group below)) found))

-- the keys and their hashes, one more
pub hashed-more : (keys : List Row) (wanted : Row) (hash : ℕ) (old new : GroupHashes) → AreHashed keys old → hash ≡ key_hash wanted → new.hashes.items ≡ old.hashes.items ++ hash ∷ [] → HasChains new.hashes.items new.chains → AreHashed (keys ++ wanted ∷ []) new
hashed-more keys wanted hash old new so at more chained = record {
  hashes_are = more ∙ ap (λ l. l ++ hash ∷ []) so.hashes_are ∙ ap (λ x. map key_hash keys ++ x ∷ []) at ∙ sym (map-append key_hash keys (wanted ∷ []));
  chained = chained;
}

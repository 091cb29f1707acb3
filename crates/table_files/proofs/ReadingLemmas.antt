-- Readings of tables, one after the other.
use Rattle.std.proofs.{Common.{◌≡◌, List, ℕ, Option, Some, None, IfSome, Result, Ok, Err, IsErr, IsErrAnd, sym, ap, subst}, lemmas.Option.IfSome_then}
use Rattle.file_ports.proofs.CauseLemmas.{causes-next, causes-silent}
use Rattle.file_ports.specs.Ports.{FileMap, FilesState}
use Rattle.csv_rows.specs.{declared.feed_tables.{Table.Table, FeedFault.FeedFault}, FeedTables.{table_of_fault, unread_table, IsFaultOf}}
use Rattle.table_files.specs.Reading.{Reads}

-- what holds of known files holds of them after a step that keeps them
both : {A : Type 0} {P Q R : A → Type 0} (o later : Option A) → later ≡ o → IfSome o P → IfSome later Q → ((a : A) → P a → Q a → R a) → IfSome o R
both None later same p q f = tt
both (Some a) None same p q f = absurd (cc)
both {Q = Q} (Some a) (Some b) same p q f = let one : b ≡ a = (cc) in f a p (subst Q one q)

-- a fault of one of several tables
pub own-of : (IsOwn : Table → Type 0) (table : Table) (f : FeedFault) → IsOwn table → IsFaultOf table f → IfSome (table_of_fault f) IsOwn
own-of IsOwn table f is own = IfSome_then (table_of_fault f) own (λ t same. subst IsOwn (sym same) is)

module _ {T : Type 0} {folder : List ℕ} {before now : FilesState} {H : FileMap → T → Type 0} {F : FileMap → FeedFault → Type 0} {Own : FeedFault → Type 0} where
  -- what `?` passes on
  pub reads-raised : {f : FeedFault} (r : Result T FeedFault) → IsErr r × IsErrAnd r (λ raised. raised ≡ f) → Reads folder before now H F Own (Err f)
      → Reads folder before now H F Own r
  reads-raised (Ok x) h read = absurd h.1
  reads-raised (Err g) h read = subst (λ x. Reads folder before now H F Own (Err x)) (sym h.1) read

  -- the same value, or the same fault, in other words
  pub reads-value : {U : Type 0} {G : FileMap → U → Type 0} {E : FileMap → FeedFault → Type 0} {Other : FeedFault → Type 0} {x : T} {y : U}
      → ((m : FileMap) → H m x → G m y) → Reads folder before now H F Own (Ok x) → Reads folder before now G E Other (Ok y)
  reads-value to read = record {
    found = IfSome_then before.files read.found to;
    own = tt;
    causes = read.causes;
  }

  pub reads-fault : {U : Type 0} {G : FileMap → U → Type 0} {E : FileMap → FeedFault → Type 0} {Other : FeedFault → Type 0} {f : FeedFault}
      → (Own f → Other f) → ((m : FileMap) → Own f → F m f → E m f) → Reads folder before now H F Own (Err f) → Reads folder before now G E Other (Err f)
  reads-fault own to read = record {
    found = IfSome_then before.files read.found (λ m first free. to m read.own (first free));
    own = own read.own;
    causes = read.causes;
  }

  -- a fault of what was read, which no file has by itself
  pub reads-refused : {U : Type 0} {G : FileMap → U → Type 0} {E : FileMap → FeedFault → Type 0} {Other : FeedFault → Type 0} {x : T} {f : FeedFault}
      → unread_table f ≡ None → Other f → ((m : FileMap) → H m x → E m f) → Reads folder before now H F Own (Ok x) → Reads folder before now G E Other (Err f)
  reads-refused content own to read = record {
    found = IfSome_then before.files read.found (λ m h free. to m h);
    own = own;
    causes = causes-silent (λ table is. is) (λ table is. absurd (let unread = ap unread_table is in cc)) read.causes;
  }

  -- a reading after one that had a value
  module _ {U : Type 0} {G : FileMap → U → Type 0} {E : FileMap → FeedFault → Type 0} {Other : FeedFault → Type 0} {middle : FilesState} {x : T} where
    pub reads-both : {y : U} → Reads folder before middle H F Own (Ok x) → Reads folder middle now G E Other (Ok y)
        → Reads folder before now (λ m (p : T × U). H m p.0 × G m p.1) E Other (Ok (x, y))
    reads-both a b = record {
      found = both before.files middle.files a.causes.same a.found b.found (λ m h g. (h, g));
      own = tt;
      causes = causes-next (λ table is. is) a.causes b.causes;
    }

    pub reads-after : {f : FeedFault} → Reads folder before middle H F Own (Ok x) → Reads folder middle now G E Other (Err f)
        → Reads folder before now (λ m (p : T × U). H m p.0 × G m p.1) (λ m g. H m x × E m g) Other (Err f)
    reads-after a b = record {
      found = both before.files middle.files a.causes.same a.found b.found (λ m h first free. (h, first free));
      own = b.own;
      causes = causes-next (λ table is. is) a.causes b.causes;
    }

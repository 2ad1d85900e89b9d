-- Each text has one reply.
use Rattle.std.proofs.Common.{◌≡◌, ◌≢◌, ◌⊎◌, refl, sym, ◌∙◌, ap, ℕ, inl, inr, List}
use Rattle.std.specs.Prelude.{Result, Ok, Err, IfOk}
use Rattle.std.specs.declared.alloc.AllocError.{AllocError}
use Rattle.quil_tree.specs.declared.item.Item.{Item}
use Rattle.quil_grammar.specs.declared.fault.ReadFault.{ReadFault}
use Rattle.quil_grammar.specs.declared.fault.ReadFault.TheVariants.{OutOfMemory}
use Rattle.quil_parse.specs.Program.{IsTreeOf, IsFaultOf}
use Rattle.quil_code.specs.declared.load_fault.LoadFault.{LoadFault}
use Rattle.quil_code.specs.declared.load_fault.LoadFault.TheVariants as load
use Rattle.quil_code.specs.Program.{Program}
use Rattle.quil_link.specs.Load.{IsLoaded, load_tree, of_reading}
use Rattle.qvm.specs.RunText.{Reply, IsReplyTo, refused_reply, reply_of}
use Rattle.qvm.specs.declared.answer.Reply.{Reply as CodeReply}
use Rattle.qvm.specs.Ends.{reply_seen}

-- what a text is loaded as has a reply
of_loaded : (limit : ℕ) (seed text : List ℕ) (r : Result Program LoadFault) → IsLoaded text r → (reply : Reply) × IsReplyTo limit seed text reply
of_loaded limit seed text r h = (reply_of limit seed r, record { loaded = r; is_loaded = h; is = refl })

-- a text is a tree or has a fault, and is loaded so
pub some_reply_by : ((text : List ℕ) → ((tree : List Item) × IsTreeOf text tree) ⊎ ((f : ReadFault) × (f ≢ OutOfMemory) × IsFaultOf text f)) → (limit : ℕ) (seed text : List ℕ) → (reply : Reply) × IsReplyTo limit seed text reply
some_reply_by read limit seed text = by (read text)
  where
    by : ((tree : List Item) × IsTreeOf text tree) ⊎ ((f : ReadFault) × (f ≢ OutOfMemory) × IsFaultOf text f) → (reply : Reply) × IsReplyTo limit seed text reply
    by (inl x) = of_loaded limit seed text (load_tree x.0) (inr (record { tree = x.0; is_tree = x.1; is_loaded = refl }))
    by (inr x) = of_loaded limit seed text (Err (of_reading x.0)) (inl (record { reason = x.0; has_memory = x.1; is_fault = x.2; is_refusal = refl }))

-- a text is loaded in one way, and then has one reply
pub one_reply_by : ((text : List ℕ) (r s : Result Program LoadFault) → IsLoaded text r → IsLoaded text s → r ≡ s) → (limit : ℕ) (seed text : List ℕ) (r s : Reply) → IsReplyTo limit seed text r → IsReplyTo limit seed text s → r ≡ s
one_reply_by one limit seed text r s h k = h.is ∙ ap (reply_of limit seed) (one text h.loaded k.loaded h.is_loaded k.is_loaded) ∙ sym k.is

-- a text that is refused, not for want of memory, has that refusal as its reply
pub refused : (limit : ℕ) (seed text : List ℕ) (f : LoadFault) (r : Result CodeReply AllocError) → (f ≢ load.OutOfMemory → IsLoaded text (Err f)) → IfOk r (λ reply. f ≢ load.OutOfMemory) →
    IfOk r (λ reply. reply_seen reply ≡ refused_reply f) → IfOk r (λ reply. IsReplyTo limit seed text (reply_seen reply))
refused limit seed text f (Ok reply) loaded known e = record { loaded = Err f; is_loaded = loaded known; is = e }
refused limit seed text f (Err a) loaded known e = e

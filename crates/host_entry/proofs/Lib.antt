pub mod MadeHeads

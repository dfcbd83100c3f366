pub mod NeverMixed

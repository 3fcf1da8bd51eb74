pub mod CalledBy
